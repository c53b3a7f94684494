-- The laws of reading of a type that is a SEQUENCE OF itself.
use Rattle.std.proofs.Common.{◌≡◌, ℕ, zero, suc, ◌≤◌, List, [], ◌++◌, refl, sym, arith, subst}
use Rattle.yasna_base.specs.declared.mode.BERMode.{BERMode}
use Rattle.yasna_base.specs.declared.tag.PCBit.TheVariants.{Constructed}
use Rattle.yasna_base.specs.Coding.{IsSame, IsCoding}
use Rattle.yasna_base.specs.Identifier.{StartsElement, nothing}
use Rattle.yasna_base.specs.Nested.{IsNested, AnyNested, SameTo, SameNested}
use Rattle.yasna_base.specs.Pieces.{Each, Pieces}
use Rattle.yasna_base.specs.Sequence.{sequence_tag}
use Rattle.yasna_base.specs.SequenceOf.{IsListOf, AnyListOf}
use Rattle.yasna_base.proofs.Element.{element_exact, element_starts}
use Rattle.yasna_base.proofs.Identifier.{not_end}
use Rattle.yasna_base.proofs.Pieces.{no_prefix_at_end, pieces_once, pieces_end, each_same, pieces_wider}
use Rattle.yasna_base.proofs.SequenceOf.{each_any, each_is_same}

any_opens : (n : ℕ) (m : BERMode) (b : List ℕ) → AnyNested m n b → StartsElement b
any_opens zero m b p = absurd p
any_opens (suc n) m b p = element_starts m sequence_tag Constructed p.contents b (not_end 16 (λ e. omega arith)) p.element

any_prefix_free : (n k : ℕ) (m : BERMode) (b c r s : List ℕ) → AnyNested m n b → AnyNested m k c → b ++ r ≡ c ++ s → b ≡ c
any_prefix_free zero k m b c r s p q e = absurd p
any_prefix_free (suc n) zero m b c r s p q e = absurd q
any_prefix_free (suc n) (suc k) m b c r s p q e =
    (element_exact m m sequence_tag sequence_tag Constructed Constructed p.contents q.contents b c r s p.element q.element
    (λ y z i j f. pieces_end (λ u w d g y z h i. any_prefix_free n k m d g y z h i) (λ u d h. any_opens n m d h) (λ u d h. any_opens k m d h)
    p.meaning.0 q.meaning.0 p.contents q.contents y z p.meaning.1 q.meaning.1 i j f) e).bytes

module _ {U : Type 0} (parts : U → List U) where
  nested_among : (n : ℕ) (m : BERMode) (v : U) (b : List ℕ) → IsNested parts m n v b → AnyNested m n b
  nested_among zero m v b p = absurd p
  nested_among (suc n) m v b p =
      let x = p.meaning in
      let r = each_any (nested_among n m) (parts v) x.pieces x.each in
      record { contents = p.contents; element = p.element; meaning = (r.0, record { pieces = x.pieces; each = r.1; joined = x.joined }) }

  nested_starts : (n : ℕ) (m : BERMode) (v : U) (b : List ℕ) → IsNested parts m n v b → StartsElement b
  nested_starts n m v b p = any_opens n m b (nested_among n m v b p)

  nested_exact : (n k : ℕ) (m : BERMode) (v w : U) (b : List ℕ) → IsNested parts m n v b → IsNested parts m k w b → (j : ℕ) → SameTo parts j v w
  nested_exact n k m v w b p q zero = tt
  nested_exact zero k m v w b p q (suc j) = absurd p
  nested_exact (suc n) zero m v w b p q (suc j) = absurd q
  nested_exact (suc n) (suc k) m v w b p q (suc j) =
      let prefix_free = λ (v w : U) (b c r s : List ℕ) (g : IsNested parts m n v b) (h : IsNested parts m k w c) (e : b ++ r ≡ c ++ s).
      any_prefix_free n k m b c r s (nested_among n m v b g) (nested_among k m w c h) e in
      let same = element_exact m m sequence_tag sequence_tag Constructed Constructed p.contents q.contents b b [] [] p.element q.element
      (λ y z g h f. pieces_end prefix_free (nested_starts n m) (nested_starts k m) (parts v) (parts w) p.contents q.contents y z p.meaning q.meaning g h f) refl in
      let x = subst (λ c. Pieces (IsNested parts m n) (parts v) c) same.contents p.meaning in
      let y = q.meaning in
      let once = pieces_once prefix_free (parts v) (parts w) q.contents q.contents [] [] x y (no_prefix_at_end (nested_starts k m) [] (nothing refl))
      (no_prefix_at_end (nested_starts n m) [] (nothing refl)) refl in
      each_same (λ v w b g h. nested_exact n k m v w b g h j) (parts v) (parts w) y.pieces (subst (λ bs. Each (IsNested parts m n) (parts v) bs) once.0 x.each)
      y.each

  nested_deeper : (n k : ℕ) (m : BERMode) (v : U) (b : List ℕ) → n ≤ k → IsNested parts m n v b → IsNested parts m k v b
  nested_deeper zero k m v b below p = absurd p
  nested_deeper (suc n) zero m v b below p = absurd (omega (arith, below))
  nested_deeper (suc n) (suc k) m v b below p = record {
    contents = p.contents;
    element = p.element;
    meaning = pieces_wider (λ v b h. nested_deeper n k m v b (omega (arith, below)) h) (parts v) p.contents p.meaning;
  }

  same_to : (k : ℕ) → IsSame (SameTo parts k)
  same_to zero = record { reflexive = λ v. tt; symmetric = λ v w e. tt; transitive = λ u v w d e. tt }
  same_to (suc k) =
      let each = each_is_same (same_to k) in
      record {
        reflexive = λ v. each.reflexive (parts v);
        symmetric = λ v w. each.symmetric (parts v) (parts w);
        transitive = λ u v w. each.transitive (parts u) (parts v) (parts w);
      }

  -- such a type satisfies the laws of reading
  pub nested_coding : IsCoding (SameNested parts) (IsNested parts) AnyNested
  nested_coding = record {
    meaning = record {
      equal = record {
        reflexive = λ v k. (same_to k).reflexive v;
        symmetric = λ v w e k. (same_to k).symmetric v w (e k);
        transitive = λ u v w d e k. (same_to k).transitive u v w (d k) (e k);
      };
      among = λ m n v b p. nested_among n m v b p;
      exact = λ m n k v w b p q. nested_exact n k m v w b p q;
      deeper = λ m n k v b below p. nested_deeper n k m v b below p;
    };
    opens = λ m n b p. any_opens n m b p;
    prefix_free = λ m n k b c r s p q e. any_prefix_free n k m b c r s p q e;
  }

  -- a list of the values within one is the one
  pub nested_list : (m : BERMode) (n : ℕ) (v : U) (vs : List U) (b : List ℕ) → parts v ≡ vs →
      IsListOf (IsNested parts) sequence_tag m n vs b →
      IsNested parts m n v b
  nested_list m zero v vs b e p = p
  nested_list m (suc n) v vs b e p = record {
    contents = p.contents;
    element = p.element;
    meaning = subst (λ us. Pieces (IsNested parts m n) us p.contents) (sym e) p.meaning;
  }

-- bytes of some values within one are a list of such bytes
pub any_nested_list : (m : BERMode) (n : ℕ) (b : List ℕ) → AnyNested m n b → AnyListOf AnyNested sequence_tag m n b
any_nested_list m zero b p = p
any_nested_list m (suc n) b p = record { contents = p.contents; element = p.element; meaning = p.meaning }
