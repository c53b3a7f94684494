-- The laws of elements of one type, one after the other, and of a SEQUENCE OF them.
use Rattle.std.proofs.Common.{◌≡◌, ℕ, ◌^◌, ◌<◌, ◌≤◌, max, List, [], ◌∷◌, ◌++◌, length, refl, ap, ap₂, ◌∙◌, sym, arith, length-append, subst, map}
use Rattle.std.specs.List.{AllByRecursion, concat, flat_map}
use Rattle.yasna_base.specs.declared.mode.BERMode.{BERMode}
use Rattle.yasna_base.specs.declared.mode.BERMode.TheVariants.{Ber, Der}
use Rattle.yasna_base.specs.declared.tag.Tag.{Tag}
use Rattle.yasna_base.specs.Canonical.{IsCanonicalMode, HoldsEncoding, enclosed_encoding, enclosed_depth, HasEncoding, IsWritten}
use Rattle.yasna_base.specs.Coding.{IsSame, IsCoding, IsContentsCoding}
use Rattle.yasna_base.specs.Digits.{IsBytes}
use Rattle.yasna_base.specs.Grammar.{Grammar, Members, Encoding, Depth}
use Rattle.yasna_base.specs.Identifier.{end_tag, nothing}
use Rattle.yasna_base.specs.Pieces.{Each}
use Rattle.yasna_base.specs.Sequence.{sequence_tag}
use Rattle.yasna_base.specs.SequenceOf.{ElementsOf, AnyElements, IsListOf, AnyListOf, elements_encoding, elements_depth}
use Rattle.yasna_base.proofs.Canonical.{enclosed_written, written_along}
use Rattle.yasna_base.proofs.Coding.{along, enclosed}
use Rattle.yasna_base.proofs.Digits.{bytes_append}
use Rattle.yasna_base.proofs.Identifier.{not_end}
use Rattle.yasna_base.proofs.Pieces.{no_prefix_at_end, pieces_once, pieces_end, each_same, pieces_wider}

each_reflexive : {A : Type 0} (E : A → A → Type 0) → ((v : A) → E v v) → (vs : List A) → Each E vs vs
each_reflexive E f [] = tt
each_reflexive E f (v ∷ vs) = (f v, each_reflexive E f vs)

each_symmetric : {A : Type 0} {E : A → A → Type 0} → ((v w : A) → E v w → E w v) → (vs ws : List A) → Each E vs ws → Each E ws vs
each_symmetric f [] [] p = tt
each_symmetric f [] (w ∷ ws) p = absurd p
each_symmetric f (v ∷ vs) [] p = absurd p
each_symmetric f (v ∷ vs) (w ∷ ws) p = (f v w p.0, each_symmetric f vs ws p.1)

each_transitive : {A : Type 0} {E : A → A → Type 0} → ((u v w : A) → E u v → E v w → E u w) → (us vs ws : List A) → Each E us vs → Each E vs ws → Each E us ws
each_transitive f [] [] ws p q = q
each_transitive f [] (v ∷ vs) ws p q = absurd p
each_transitive f (u ∷ us) [] ws p q = absurd p
each_transitive f (u ∷ us) (v ∷ vs) [] p q = absurd q
each_transitive f (u ∷ us) (v ∷ vs) (w ∷ ws) p q = (f u v w p.0 q.0, each_transitive f us vs ws p.1 q.1)

-- lists are equal where their items are, one by one
pub each_is_same : {A : Type 0} {E : A → A → Type 0} → IsSame E → IsSame (λ vs ws. Each E vs ws)
each_is_same {E} x = record {
  reflexive = each_reflexive E x.reflexive;
  symmetric = each_symmetric x.symmetric;
  transitive = each_transitive x.transitive;
}

-- what each value represents represents no value
pub each_any : {A : Type 0} {R : A → List ℕ → Type 0} {S : List ℕ → Type 0} → ((v : A) (b : List ℕ) → R v b → S b) → (vs : List A) (bs : List (List ℕ)) →
    Each R vs bs → (us : List (Unit {0})) × Each (λ u. S) us bs
each_any f [] [] p = ([], tt)
each_any f [] (b ∷ bs) p = absurd p
each_any f (v ∷ vs) [] p = absurd p
each_any f (v ∷ vs) (b ∷ bs) p = let r = each_any f vs bs p.1 in (tt ∷ r.0, (f v b p.0, r.1))

-- the elements of a list satisfy the laws of contents
pub elements_contents : {A : Type 0} {E : A → A → Type 0} {B : Grammar A} {S : Members} → IsCoding E B S →
    IsContentsCoding (λ vs ws. Each E vs ws) (ElementsOf B) (AnyElements S)
elements_contents {A} {E} {B} {S} x = record {
  meaning = record {
    equal = each_is_same x.meaning.equal;
    among = λ m n vs c p. let r = each_any (x.meaning.among m n) vs p.pieces p.each in (r.0, record { pieces = p.pieces; each = r.1; joined = p.joined });
    exact = λ m n k vs ws c p q.
        let starts = λ (i : ℕ) (v : A) (b : List ℕ) (h : B m i v b). x.opens m i b (x.meaning.among m i v b h) in
        let same = pieces_once
        (λ v w b d r s g h. x.prefix_free m n k b d r s (x.meaning.among m n v b g) (x.meaning.among m k w d h))
        vs ws c c [] [] p q (no_prefix_at_end (starts k) [] (nothing refl)) (no_prefix_at_end (starts n) [] (nothing refl)) refl in
        each_same (x.meaning.exact m n k) vs ws q.pieces (subst (λ bs. Each (B m n) vs bs) same.0 p.each) q.each;
    deeper = λ m n k vs c below p. pieces_wider (λ v b h. x.meaning.deeper m n k v b below h) vs c p;
  };
  ends = λ m n k b c r s i j p q e.
      pieces_end (λ u w d f y z g h. x.prefix_free m n k d f y z g h) (λ u d h. x.opens m n d h) (λ u d h. x.opens m k d h) p.0 q.0 b c r s p.1 q.1 i j e;
}

-- a list satisfies the laws of reading
pub list : {A : Type 0} {E : A → A → Type 0} {B : Grammar A} {S : Members} (t : Tag) → (t ≡ end_tag → ⊥) →
    IsCoding E B S → IsCoding (λ vs ws. Each E vs ws) (IsListOf B t) (AnyListOf S t)
list t not_end x = enclosed t not_end (elements_contents x)

-- a type whose values represent lists satisfies the laws of reading as a SEQUENCE OF
pub list_along : {U A : Type 0} {E : A → A → Type 0} {B : Grammar A} {S : Members} (f : U → List A) →
    IsCoding E B S → IsCoding (λ v w. Each E (f v) (f w)) (λ m n v b. IsListOf B sequence_tag m n (f v) b) (AnyListOf S sequence_tag)
list_along f x = along f (list sequence_tag (not_end 16 (λ e. omega arith)) x)

-- encodings joined are the encodings one after the other
pub encodings_joined : {A : Type 0} (f : A → List ℕ) (vs : List A) → flat_map f vs ≡ concat (map f vs)
encodings_joined f [] = refl
encodings_joined f (v ∷ vs) = ap (λ c. f v ++ c) (encodings_joined f vs)

module _ {A : Type 0} {B : Grammar A} {encoding : Encoding A} {depth : Depth A} {Can : BERMode → A → Type 0} (x : HasEncoding B encoding depth Can) where
  elements_bytes : (m : BERMode) (vs : List A) → AllByRecursion (Can m) vs → length (elements_encoding encoding m vs) < 2 ^ 64 → IsBytes (elements_encoding encoding m vs)
  elements_bytes m [] can short = tt
  elements_bytes m (v ∷ vs) can short =
      let both = length-append (encoding m v) (elements_encoding encoding m vs) in
      bytes_append (encoding m v) (elements_encoding encoding m vs) (x.in_bytes m v can.0 (omega (arith, both, short)))
      (elements_bytes m vs can.1 (omega (arith, both, short)))

  -- the encoding of each element is read
  pub each_encoding : (m o : BERMode) (n : ℕ) (vs : List A) → HoldsEncoding m o → AllByRecursion (Can m) vs → elements_depth depth m vs ≤ n →
      length (elements_encoding encoding m vs) < 2 ^ 64 → Each (B o n) vs (map (encoding m) vs)
  each_encoding m o n [] h can level short = tt
  each_encoding m o n (v ∷ vs) h can level short =
      let both = length-append (encoding m v) (elements_encoding encoding m vs) in (
        x.holds m o n v h can.0 (omega (arith, level)) (omega (arith, both, short)),
        each_encoding m o n vs h can.1 (omega (arith, level)) (omega (arith, both, short)),
      )

  -- pieces that a canonical mode reads are the encodings
  pub each_only : (m : BERMode) (n : ℕ) (vs : List A) (bs : List (List ℕ)) → IsCanonicalMode m → Each (B m n) vs bs →
      (bs ≡ map (encoding m) vs) × AllByRecursion (Can m) vs × (elements_depth depth m vs ≤ n)
  each_only m n [] [] h p = (refl, tt, omega arith)
  each_only m n [] (b ∷ bs) h p = absurd p
  each_only m n (v ∷ vs) [] h p = absurd p
  each_only m n (v ∷ vs) (b ∷ bs) h p =
      let first = x.only m n v b h p.0 in
      let others = each_only m n vs bs h p.1 in
      (ap₂ (λ y z. y ∷ z) first.0 others.0, (first.1, others.1), omega (arith, first.2, others.2))

  -- elements that have encodings have them one after the other
  pub elements_have : HasEncoding (ElementsOf B) (elements_encoding encoding) (elements_depth depth) (λ m vs. AllByRecursion (Can m) vs)
  elements_have = record {
    in_bytes = elements_bytes;
    holds = λ m o n vs h can level short.
        record { pieces = map (encoding m) vs; each = each_encoding m o n vs h can level short; joined = encodings_joined (encoding m) vs };
    only = λ m n vs c h p.
        let y = each_only m n vs p.pieces h p.each in
        (p.joined ∙ ap concat y.0 ∙ sym (encodings_joined (encoding m) vs), y.1, y.2);
  }

module _ {A : Type 0} {E : A → A → Type 0} {B : Grammar A} {encoding : Encoding A} {depth : Depth A} {Can : A → Type 0} (x : IsWritten E B encoding depth Can) where
  elements_any : (n : ℕ) (vs : List A) (bs : List (List ℕ)) → Each (B Ber n) vs bs → AllByRecursion Can vs × (elements_depth depth Der vs ≤ n)
  elements_any n [] [] p = (tt, omega arith)
  elements_any n [] (b ∷ bs) p = absurd p
  elements_any n (v ∷ vs) [] p = absurd p
  elements_any n (v ∷ vs) (b ∷ bs) p =
      let first = x.any n v b p.0 in
      let others = elements_any n vs bs p.1 in
      ((first.0, others.0), omega (arith, first.1, others.1))

  elements_same : (m : BERMode) (vs ws : List A) → Each E vs ws → (elements_encoding encoding m vs ≡ elements_encoding encoding m ws) ×
      (AllByRecursion Can vs → AllByRecursion Can ws) × (elements_depth depth m vs ≡ elements_depth depth m ws)
  elements_same m [] [] p = (refl, λ can. tt, refl)
  elements_same m [] (w ∷ ws) p = absurd p
  elements_same m (v ∷ vs) [] p = absurd p
  elements_same m (v ∷ vs) (w ∷ ws) p =
      let first = x.same m v w p.0 in
      let others = elements_same m vs ws p.1 in
      (ap₂ (λ y z. y ++ z) first.0 others.0, λ can. (first.1 can.0, others.1 can.1), ap₂ (λ y z. max y z) first.2 others.2)

  -- the elements of a list satisfy the laws of writing
  pub elements_written : IsWritten (λ vs ws. Each E vs ws) (ElementsOf B) (elements_encoding encoding) (elements_depth depth) (λ vs. AllByRecursion Can vs)
  elements_written = record {
    has = elements_have x.has;
    any = λ n vs c p. elements_any n vs p.pieces p.each;
    same = elements_same;
  }

-- a type whose values represent lists satisfies the laws of writing as a SEQUENCE OF
pub list_written : {U A : Type 0} {E : A → A → Type 0} {B : Grammar A} {encoding : Encoding A}
    {depth : Depth A} {Can : A → Type 0} (f : U → List A) → IsWritten E B encoding depth Can →
    IsWritten (λ v w. Each E (f v) (f w)) (λ m n v b. IsListOf B sequence_tag m n (f v) b) (λ m v. enclosed_encoding (elements_encoding encoding) sequence_tag m (f v))
    (λ m v. enclosed_depth (elements_depth depth) m (f v)) (λ v. AllByRecursion Can (f v))
list_written f x = written_along f (enclosed_written sequence_tag (omega arith) (elements_written x))
