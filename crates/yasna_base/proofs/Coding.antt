-- The laws of reading, of primitive elements, of what encloses others, and of what represents others.
use Rattle.std.proofs.Common.{◌≡◌, ℕ, ◌≤◌, List, [], ◌++◌, refl, ◌∙◌, sym, arith, zero, suc, subst, append-nil}
use Rattle.yasna_base.specs.declared.mode.BERMode.{BERMode}
use Rattle.yasna_base.specs.declared.tag.PCBit.TheVariants.{Primitive, Constructed}
use Rattle.yasna_base.specs.declared.tag.Tag.{Tag}
use Rattle.yasna_base.specs.Coding.{IsSame, IsCoding, ArePartsCoding, IsContentsCoding, Any}
use Rattle.yasna_base.specs.Element.{Primitively, Enclosed, AnyEnclosed}
use Rattle.yasna_base.specs.Grammar.{Grammar, Members}
use Rattle.yasna_base.specs.Identifier.{end_tag, BeginsWithTag, StartsElement}
use Rattle.yasna_base.proofs.Element.{element_exact, primitive_exact, element_starts, framed_begins}
use Rattle.yasna_base.proofs.Identifier.{not_end}
use Rattle.yasna_base.proofs.Lists.{append_same}

-- equality is an equivalence
pub equal_same : {A : Type 0} → IsSame (λ (v w : A). v ≡ w)
equal_same = record { reflexive = λ v. refl; symmetric = λ v w e. sym e; transitive = λ u v w d e. d ∙ e }

-- a type of one primitive element, whose contents have one meaning, satisfies the laws
pub primitively : {A : Type 0} (W : BERMode → A → List ℕ → Type 0) (t : Tag) → (t ≡ end_tag → ⊥) →
    ((m : BERMode) (v w : A) (c : List ℕ) → W m v c → W m w c → v ≡ w) →
    IsCoding (λ v w. v ≡ w) (Primitively W t) (Any (Primitively W t))
primitively W t not_end one = record {
  meaning = record {
    equal = equal_same;
    among = λ m n v b x. (v, x);
    exact = λ m n k v w b x y.
        let same = primitive_exact m m t t Primitive x.contents y.contents b b [] [] x.element y.element refl in
        one m v w y.contents (subst (λ c. W m v c) same.contents x.meaning) y.meaning;
    deeper = λ m n k v b below x. record { level = omega (arith, below, x.level); contents = x.contents; element = x.element; meaning = x.meaning };
  };
  opens = λ m n b x. element_starts m t Primitive x.1.contents b not_end x.1.element;
  prefix_free = λ m n k b c r s x y e. (primitive_exact m m t t Primitive x.1.contents y.1.contents b c r s x.1.element y.1.element e).bytes;
}

-- a type of one primitive element begins with its tag
pub primitively_begins : {A : Type 0} (W : BERMode → A → List ℕ → Type 0) (t : Tag) (m : BERMode) (n : ℕ) (b : List ℕ) →
    Any (Primitively W t) m n b → BeginsWithTag t b
primitively_begins W t m n b x = framed_begins m t Primitive x.1.contents b x.1.element.framed

-- a type satisfies the laws by any equivalence that follows from its own
pub same_as : {A : Type 0} {E : A → A → Type 0} {B : Grammar A} {S : Members} (F : A → A → Type 0) → IsSame F →
    ((v w : A) → E v w → F v w) → IsCoding E B S → IsCoding F B S
same_as F equal says x = record {
  meaning = record {
    equal = equal;
    among = x.meaning.among;
    exact = λ m n k v w b p q. says v w (x.meaning.exact m n k v w b p q);
    deeper = x.meaning.deeper;
  };
  opens = x.opens;
  prefix_free = x.prefix_free;
}

-- the parts of a tuple may be contents
pub parts_contents : {A : Type 0} {E : A → A → Type 0} {C : Grammar A} {S : Members} → ArePartsCoding E C S → IsContentsCoding E C S
parts_contents x = record { meaning = x.meaning; ends = λ m n k b c r s i j. x.prefix_free m n k b c r s }

module _ {A : Type 0} {E : A → A → Type 0} {C : Grammar A} {S : Members} (x : IsContentsCoding E C S) (t : Tag) where
  enclosed_among : (m : BERMode) (n : ℕ) (v : A) (b : List ℕ) → Enclosed C t m n v b → AnyEnclosed S t m n b
  enclosed_among m zero v b p = p
  enclosed_among m (suc n) v b p = record { contents = p.contents; element = p.element; meaning = x.meaning.among m n v p.contents p.meaning }

  enclosed_opens : (t ≡ end_tag → ⊥) → (m : BERMode) (n : ℕ) (b : List ℕ) → AnyEnclosed S t m n b → StartsElement b
  enclosed_opens not_end m zero b p = absurd p
  enclosed_opens not_end m (suc n) b p = element_starts m t Constructed p.contents b not_end p.element

  enclosed_prefix_free : (m : BERMode) (n k : ℕ) (b c r s : List ℕ) → AnyEnclosed S t m n b → AnyEnclosed S t m k c → b ++ r ≡ c ++ s → b ≡ c
  enclosed_prefix_free m zero k b c r s p q e = absurd p
  enclosed_prefix_free m (suc n) zero b c r s p q e = absurd q
  enclosed_prefix_free m (suc n) (suc k) b c r s p q e =
      (element_exact m m t t Constructed Constructed p.contents q.contents b c r s p.element q.element
      (λ y z i j. x.ends m n k p.contents q.contents y z i j p.meaning q.meaning) e).bytes

  enclosed_exact : (m : BERMode) (n k : ℕ) (v w : A) (b : List ℕ) → Enclosed C t m n v b → Enclosed C t m k w b → E v w
  enclosed_exact m zero k v w b p q = absurd p
  enclosed_exact m (suc n) zero v w b p q = absurd q
  enclosed_exact m (suc n) (suc k) v w b p q =
      let same = element_exact m m t t Constructed Constructed p.contents q.contents b b [] [] p.element q.element
      (λ y z i j. x.ends m n k p.contents q.contents y z i j (x.meaning.among m n v p.contents p.meaning)
      (x.meaning.among m k w q.contents q.meaning)) refl in
      x.meaning.exact m n k v w q.contents (subst (λ c. C m n v c) same.contents p.meaning) q.meaning

  enclosed_deeper : (m : BERMode) (n k : ℕ) (v : A) (b : List ℕ) → n ≤ k → Enclosed C t m n v b → Enclosed C t m k v b
  enclosed_deeper m zero k v b below p = absurd p
  enclosed_deeper m (suc n) zero v b below p = absurd (omega (arith, below))
  enclosed_deeper m (suc n) (suc k) v b below p = record
      { contents = p.contents; element = p.element; meaning = x.meaning.deeper m n k v p.contents (omega (arith, below)) p.meaning }

-- an element around contents satisfies the laws
pub enclosed : {A : Type 0} {E : A → A → Type 0} {C : Grammar A} {S : Members} (t : Tag) →
    (t ≡ end_tag → ⊥) → IsContentsCoding E C S → IsCoding E (Enclosed C t) (AnyEnclosed S t)
enclosed t not_end x = record {
  meaning = record { equal = x.meaning.equal; among = enclosed_among x t; exact = enclosed_exact x t; deeper = enclosed_deeper x t };
  opens = enclosed_opens x t not_end;
  prefix_free = enclosed_prefix_free x t;
}

-- a type whose values represent those of another satisfies its laws
pub along : {U A : Type 0} {E : A → A → Type 0} {B : Grammar A} {S : Members} (f : U → A) →
    IsCoding E B S → IsCoding (λ v w. E (f v) (f w)) (λ m n v b. B m n (f v) b) S
along f x = record {
  meaning = record {
    equal = record {
      reflexive = λ v. x.meaning.equal.reflexive (f v);
      symmetric = λ v w. x.meaning.equal.symmetric (f v) (f w);
      transitive = λ u v w. x.meaning.equal.transitive (f u) (f v) (f w);
    };
    among = λ m n v. x.meaning.among m n (f v);
    exact = λ m n k v w. x.meaning.exact m n k (f v) (f w);
    deeper = λ m n k v. x.meaning.deeper m n k (f v);
  };
  opens = x.opens;
  prefix_free = x.prefix_free;
}

-- no encoding begins another, and equal encodings have equal values
pub unambiguous : {A : Type 0} {E : A → A → Type 0} {B : Grammar A} {S : Members} → IsCoding E B S →
    (m : BERMode) (n k : ℕ) (v w : A) (b r : List ℕ) → B m n v b → B m k w (b ++ r) → E v w × (r ≡ [])
unambiguous {B} x m n k v w b r p q =
    let same = x.prefix_free m n k b (b ++ r) r [] (x.meaning.among m n v b p) (x.meaning.among m k w (b ++ r) q) (sym (append-nil (b ++ r))) in
    (x.meaning.exact m n k v w (b ++ r) (subst (λ c. B m n v c) same p) q, append_same b r [] (sym same ∙ sym (append-nil b)))
