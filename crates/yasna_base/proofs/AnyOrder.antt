-- The laws of a SET OF whose values are in no order.
use Rattle.std.proofs.Common.{◌≡◌, ℕ, zero, suc, ◌+◌, ◌^◌, ◌<◌, ◌≤◌, List, [], ◌∷◌, length, get_or, set, refl, ap, ap₂, ◌∙◌, sym, arith, swap}
use Rattle.std.specs.List.{AllByRecursion, concat}
use Rattle.std.specs.List.Sorted.{IsPermutation}
use Rattle.std.proofs.lemmas.List.Sorted.{IsPermutation-keeps, IsPermutation-map, IsPermutation-refl}
use Rattle.std.proofs.lemmas.List.Sorted.{IsPermutation-swap, IsPermutation-sym, IsPermutation-trans}
use Rattle.yasna_base.specs.declared.mode.BERMode.{BERMode}
use Rattle.yasna_base.specs.declared.mode.BERMode.TheVariants.{Ber, Der}
use Rattle.yasna_base.specs.declared.tag.PCBit.TheVariants.{Constructed}
use Rattle.yasna_base.specs.declared.tag.Tag.{Tag}
use Rattle.yasna_base.specs.AnyOrder.{SameSetOf, InSomeOrder, sorted_set_of_encoding}
use Rattle.yasna_base.specs.Canonical.{IsCanonicalMode, HoldsEncoding, canonical_element, HasEncoding, IsWritten}
use Rattle.yasna_base.specs.Coding.{IsSame, IsCoding}
use Rattle.yasna_base.specs.Digits.{IsBytes}
use Rattle.yasna_base.specs.Exact.{Fitting, IsExact, enclosed_fits, elements_fit}
use Rattle.yasna_base.specs.Grammar.{Grammar, Members, Encoding, Depth}
use Rattle.yasna_base.specs.Identifier.{end_tag}
use Rattle.yasna_base.specs.Order.{octets_cmp, in_order}
use Rattle.yasna_base.specs.Pieces.{Each}
use Rattle.yasna_base.specs.SequenceOf.{elements_depth}
use Rattle.yasna_base.specs.Set.{set_tag, IsSetOf, AnySetOf, SetOfContents}
use Rattle.yasna_base.specs.SetWriting.{MakeElement, encodings, in_encoding_order, CanSetOf, set_of_encoding, set_of_depth}
use Rattle.yasna_base.proofs.Canonical.{enclosed_has, enclosed_written, written_along}
use Rattle.yasna_base.proofs.Coding.{along, same_as}
use Rattle.yasna_base.proofs.Identifier.{not_end}
use Rattle.yasna_base.proofs.Order.{all_contained, all_at, all_permuted}
use Rattle.yasna_base.proofs.Pieces.{each_wider}
use Rattle.yasna_base.proofs.SequenceOf.{each_is_same, elements_written}
use Rattle.yasna_base.proofs.SetLaws.{set_of, set_of_order_one}
use Rattle.yasna_base.proofs.SetOfWriting.{in_order_permuted, depth_permuted, set_of_elements_have}
use Rattle.yasna_base.proofs.SetOfWriting.{encodings_in_order, encoding_ordered, around_encodings, octets_ordered, as_list, set_of_written}

module _ {A B : Type 0} (R : A → B → Type 0) where
  each_length : (vs : List A) (bs : List B) → Each R vs bs → length bs ≡ length vs
  each_length [] [] p = refl
  each_length [] (b ∷ bs) p = absurd p
  each_length (v ∷ vs) [] p = absurd p
  each_length (v ∷ vs) (b ∷ bs) p = ap suc (each_length vs bs p.1)

  each_get : (vs : List A) (bs : List B) (k : ℕ) (d : A) (e : B) → R d e → Each R vs bs → R (get_or vs k d) (get_or bs k e)
  each_get [] [] k d e r p = r
  each_get [] (b ∷ bs) k d e r p = absurd p
  each_get (v ∷ vs) [] k d e r p = absurd p
  each_get (v ∷ vs) (b ∷ bs) zero d e r p = p.0
  each_get (v ∷ vs) (b ∷ bs) (suc k) d e r p = each_get vs bs k d e r p.1

  each_set : (vs : List A) (bs : List B) (k : ℕ) (v : A) (b : B) → R v b → Each R vs bs → Each R (set vs k v) (set bs k b)
  each_set [] [] k w c r p = tt
  each_set [] (b ∷ bs) k w c r p = absurd p
  each_set (v ∷ vs) [] k w c r p = absurd p
  each_set (v ∷ vs) (b ∷ bs) zero w c r p = (r, p.1)
  each_set (v ∷ vs) (b ∷ bs) (suc k) w c r p = (p.0, each_set vs bs k w c r p.1)

  each_swap : (vs : List A) (bs : List B) (i j : ℕ) → Each R vs bs → Each R (swap vs i j) (swap bs i j)
  each_swap [] [] i j p = tt
  each_swap [] (b ∷ bs) i j p = absurd p
  each_swap (v ∷ vs) [] i j p = absurd p
  each_swap (v ∷ vs) (b ∷ bs) i j p =
      let us = v ∷ vs in
      let cs = b ∷ bs in
      each_set (set us i (get_or us j v)) (set cs i (get_or cs j b)) j (get_or us i v) (get_or cs i b) (each_get us cs i v b p.0 p)
      (each_set us cs i (get_or us j v) (get_or cs j b) (each_get us cs j v b p.0 p) p)

  -- where items are otherwise, those that are to them by R can be so too
  each_permuted : (vs ws : List A) (bs : List B) → Each R vs bs → IsPermutation vs ws → (cs : List B) × IsPermutation bs cs × Each R ws cs
  each_permuted vs ws bs p permuted =
      IsPermutation-keeps vs (λ us. (cs : List B) × IsPermutation bs cs × Each R us cs) (bs, IsPermutation-refl bs, p)
      (λ us i j below under q.
      let long = each_length us q.0 q.2 in
      let cs = swap q.0 i j in
      (cs, IsPermutation-trans bs q.0 cs q.1 (IsPermutation-swap q.0 cs i j (omega arith) (omega arith) refl), each_swap us q.0 i j q.2))
      ws permuted

-- lists whose items are equal one by one are equal in any order
pub each_same_set : {A : Type 0} {E : A → A → Type 0} (vs ws : List A) → Each E vs ws → SameSetOf E vs ws
each_same_set vs ws e = record { items = vs; permuted = IsPermutation-refl vs; each = e }

-- lists are equal in any order by an equivalence
pub set_is_same : {A : Type 0} {E : A → A → Type 0} → IsSame E → IsSame (SameSetOf E)
set_is_same {A} {E} x =
    let each = each_is_same x in
    record {
      reflexive = λ vs. each_same_set vs vs (each.reflexive vs);
      symmetric = λ vs ws e.
          let y = each_permuted E e.items vs ws e.each (IsPermutation-sym vs e.items e.permuted) in
          record { items = y.0; permuted = y.1; each = each.symmetric vs y.0 y.2 };
      transitive = λ us vs ws d e.
          let y = each_permuted E vs e.items d.items (each.symmetric d.items vs d.each) e.permuted in
          record {
            items = y.0;
            permuted = IsPermutation-trans us d.items y.0 d.permuted y.1;
            each = each.transitive y.0 e.items ws (each.symmetric e.items y.0 y.2) e.each;
          };
    }

-- what holds of equal items alike holds of all items of equal lists
all_same : {A : Type 0} {E : A → A → Type 0} (P : A → Type 0) → ((v w : A) → E v w → P v → P w) → (vs ws : List A) → SameSetOf E vs ws →
    AllByRecursion P vs → AllByRecursion P ws
all_same {A} {E} P f vs ws e a = go e.items ws e.each (all_permuted P vs e.items e.permuted a)
  where
    go : (us ws : List A) → Each E us ws → AllByRecursion P us → AllByRecursion P ws
    go [] [] p a = tt
    go [] (w ∷ ws) p a = absurd p
    go (u ∷ us) [] p a = absurd p
    go (u ∷ us) (w ∷ ws) p a = (f u w p.0 a.0, go us ws p.1 a.1)

-- what is as it was read is in some order
pub as_it_is : {A : Type 0} (B : Grammar (List A)) (m : BERMode) (n : ℕ) (vs : List A) (b : List ℕ) → B m n vs b → InSomeOrder B m n vs b
as_it_is B m n vs b p = record { items = vs; permuted = IsPermutation-refl vs; encoded = p }

-- lists that satisfy the laws of reading keep them in any order
pub in_some_order : {A : Type 0} {E : A → A → Type 0} {B : Grammar (List A)} {S : Members} → IsSame E →
    IsCoding (λ vs ws. Each E vs ws) B S → IsCoding (SameSetOf E) (InSomeOrder B) S
in_some_order {A} {E} equal x =
    let each = each_is_same equal in
    record {
      meaning = record {
        equal = set_is_same equal;
        among = λ m n vs b p. x.meaning.among m n p.items b p.encoded;
        exact = λ m n k vs ws b p q.
            let e = x.meaning.exact m n k p.items q.items b p.encoded q.encoded in
            let y = each_permuted E q.items ws p.items (each.symmetric p.items q.items e) (IsPermutation-sym ws q.items q.permuted) in
            record {
              items = y.0;
              permuted = IsPermutation-trans vs p.items y.0 p.permuted y.1;
              each = each.symmetric ws y.0 y.2;
            };
        deeper = λ m n k vs b below p.
            record { items = p.items; permuted = p.permuted; encoded = x.meaning.deeper m n k p.items b below p.encoded };
      };
      opens = x.opens;
      prefix_free = x.prefix_free;
    }

-- a SET OF as it is satisfies the laws of reading where its lists are equal in any order
pub set_of_same : {A : Type 0} {E : A → A → Type 0} {B : Grammar A} {S : Members} (t : Tag) → (t ≡ end_tag → ⊥) → IsCoding E B S →
    IsCoding (SameSetOf E) (IsSetOf B t) (AnySetOf S t)
set_of_same {E} t not_end x = same_as (SameSetOf E) (set_is_same x.meaning.equal) each_same_set (set_of t not_end x)

-- a SET OF in some order satisfies the laws of reading where its lists are equal in any order
pub any_set_of : {A : Type 0} {E : A → A → Type 0} {B : Grammar A} {S : Members} (t : Tag) → (t ≡ end_tag → ⊥) → IsCoding E B S →
    IsCoding (SameSetOf E) (InSomeOrder (IsSetOf B t)) (AnySetOf S t)
any_set_of t not_end x = in_some_order x.meaning.equal (set_of t not_end x)

-- a type whose values represent lists keeps them as such a SET OF
pub set_along : {U A : Type 0} {E : A → A → Type 0} {B : Grammar A} {S : Members} (f : U → List A) → IsCoding E B S →
    IsCoding (λ v w. SameSetOf E (f v) (f w)) (λ m n v b. InSomeOrder (IsSetOf B set_tag) m n (f v) b) (AnySetOf S set_tag)
set_along f x = along f (any_set_of set_tag (not_end 17 (λ e. omega arith)) x)

-- the element around the encodings in order
sorted_encoding_is : {A : Type 0} (encoding : Encoding A) (t : Tag) (m : BERMode) (vs : List A) →
    sorted_set_of_encoding encoding t m vs ≡ canonical_element m t Constructed (concat (in_order octets_cmp (encodings encoding m vs)))
sorted_encoding_is encoding t m vs = around_encodings encoding m t (in_encoding_order encoding m vs) (in_order octets_cmp (encodings encoding m vs)) (encodings_in_order encoding m vs)

-- the encodings of values in any order are put in one order
encodings_one : {A : Type 0} (encoding : Encoding A) (m : BERMode) (vs ws : List A) → IsPermutation vs ws →
    in_order octets_cmp (encodings encoding m vs) ≡ in_order octets_cmp (encodings encoding m ws)
encodings_one encoding m vs ws p = set_of_order_one (encodings encoding m vs) (encodings encoding m ws) (IsPermutation-map (encoding m) vs ws p)

-- lists that are equal in any order have one encoding, where equal items have
sorted_encoding_same : {A : Type 0} {E : A → A → Type 0} (encoding : Encoding A) (t : Tag) (m : BERMode) → ((v w : A) → E v w → encoding m v ≡ encoding m w) →
    (vs ws : List A) → SameSetOf E vs ws → sorted_set_of_encoding encoding t m vs ≡ sorted_set_of_encoding encoding t m ws
sorted_encoding_same {A} {E} encoding t m f vs ws e =
    sorted_encoding_is encoding t m vs ∙
    ap (λ bs. canonical_element m t Constructed (concat bs))
    (encodings_one encoding m vs e.items e.permuted ∙ ap (in_order octets_cmp) (encodings_same e.items ws e.each)) ∙
    sym (sorted_encoding_is encoding t m ws)
  where
    encodings_same : (us ws : List A) → Each E us ws → encodings encoding m us ≡ encodings encoding m ws
    encodings_same [] [] p = refl
    encodings_same [] (w ∷ ws) p = absurd p
    encodings_same (u ∷ us) [] p = absurd p
    encodings_same (u ∷ us) (w ∷ ws) p = ap₂ (λ b bs. b ∷ bs) (f u w p.0) (encodings_same us ws p.1)

module _ {A : Type 0} {B : Grammar A} {encoding : Encoding A} {depth : Depth A} {Can : BERMode → A → Type 0} (x : HasEncoding B encoding depth Can)
    (t : Tag) (range : t.tag_number < 2 ^ 64) where
  as_it_is_has : HasEncoding (IsSetOf B t) (set_of_encoding encoding t) (set_of_depth depth) (λ m. CanSetOf encoding (Can m) m)
  as_it_is_has = enclosed_has (set_of_elements_have x) t range

  one_encoding : (m : BERMode) (n : ℕ) (vs : List A) (b : List ℕ) → IsCanonicalMode m → InSomeOrder (IsSetOf B t) m n vs b →
      (b ≡ sorted_set_of_encoding encoding t m vs) × AllByRecursion (Can m) vs × (set_of_depth depth m vs ≤ n)
  one_encoding m n vs b h p =
      let y = as_it_is_has.only m n p.items b h p.encoded in
      let around = around_encodings encoding m t p.items (in_order octets_cmp (encodings encoding m p.items))
      (sym (octets_ordered m (encodings encoding m p.items) h y.1.order)) in
      let permuted = ap (λ bs. canonical_element m t Constructed (concat bs)) (sym (encodings_one encoding m vs p.items p.permuted)) in (
        y.0 ∙ around ∙ permuted ∙ sym (sorted_encoding_is encoding t m vs),
        all_permuted (Can m) p.items vs (IsPermutation-sym vs p.items p.permuted) y.1.each,
        omega (arith, y.2, depth_permuted depth m vs p.items p.permuted),
      )

  -- values that have encodings have one as a SET OF in some order
  pub any_set_of_has : HasEncoding (InSomeOrder (IsSetOf B t)) (sorted_set_of_encoding encoding t) (set_of_depth depth) (λ m vs. AllByRecursion (Can m) vs)
  any_set_of_has = record {
    in_bytes = λ m vs can short. as_it_is_has.in_bytes m (in_encoding_order encoding m vs) (encoding_ordered encoding m vs can) short;
    holds = λ m o n vs h can level short.
        let ws = in_encoding_order encoding m vs in
        let permuted = in_order_permuted (λ v w. octets_cmp (encoding m v) (encoding m w)) vs in
        record {
          items = ws;
          permuted = permuted;
          encoded = as_it_is_has.holds m o n ws h (encoding_ordered encoding m vs can) (omega (arith, level, depth_permuted depth m vs ws permuted)) short;
        };
    only = one_encoding;
  }

-- a SET OF in some order satisfies the laws of writing: any values that can be written can be
pub any_set_of_written : {A : Type 0} {E : A → A → Type 0} {B : Grammar A} {encoding : Encoding A} {depth : Depth A} {Can : A → Type 0}
    (t : Tag) → t.tag_number < 2 ^ 64 → IsWritten E B encoding depth Can →
    IsWritten (SameSetOf E) (InSomeOrder (IsSetOf B t)) (sorted_set_of_encoding encoding t) (set_of_depth depth) (λ vs. AllByRecursion Can vs)
any_set_of_written {B} {encoding} {depth} {Can} t range x =
    let list = enclosed_written t range (elements_written x) in
    record {
      has = any_set_of_has x.has t range;
      any = λ n vs b p.
          let y = list.any n p.items b (as_list B t Ber n p.items b p.encoded) in
          (all_permuted Can p.items vs (IsPermutation-sym vs p.items p.permuted) y.0, omega (arith, y.1, depth_permuted depth Der vs p.items p.permuted));
      same = λ m vs ws e. (
        sorted_encoding_same encoding t m (λ v w d. (x.same m v w d).0) vs ws e,
        all_same Can (λ v w d. (x.same m v w d).1) vs ws e,
        ap (λ k. 1 + k) (sym (depth_permuted depth m vs e.items e.permuted)) ∙ (list.same m e.items ws e.each).2,
      );
    }

-- a type whose values represent lists in some order satisfies the laws of writing
pub set_written : {U A : Type 0} {E : A → A → Type 0} {B : Grammar A} {encoding : Encoding A} {depth : Depth A} {Can : A → Type 0} (f : U → List A) →
    IsWritten E B encoding depth Can →
    IsWritten (λ v w. SameSetOf E (f v) (f w)) (λ m n v b. InSomeOrder (IsSetOf B set_tag) m n (f v) b)
    (λ m v. sorted_set_of_encoding encoding set_tag m (f v)) (λ m v. set_of_depth depth m (f v)) (λ v. AllByRecursion Can (f v))
set_written f x = written_along f (any_set_of_written set_tag (omega arith) x)

-- the encoding is what a writer makes that puts the values' encodings in order, however they are there
pub sorted_encoding_made : {A : Type 0} {E : A → A → Type 0} {B : Grammar A} {S : Members} {encoding : Encoding A} {depth : Depth A} {Can : A → Type 0} →
    IsCoding E B S → IsWritten E B encoding depth Can → (t : Tag) → t.tag_number < 2 ^ 64 → (m : BERMode) (vs : List A) (parts : List (List ℕ)) →
    IsCanonicalMode m → AllByRecursion Can vs → length (sorted_set_of_encoding encoding t m vs) < 2 ^ 64 → IsPermutation (encodings encoding m vs) parts →
    MakeElement SetOfContents m t parts (sorted_set_of_encoding encoding t m vs)
sorted_encoding_made r x t range m vs parts = (set_of_written r x t range).encodings.made m vs parts

-- on one level a type that satisfies the laws of a canonical mode has encodings
on_level : {A : Type 0} {E : A → A → Type 0} {B : Grammar A} {encoding : Encoding A} {Fits : Fitting A} {Can : A → Type 0} →
    IsExact E B encoding Fits Can → (k : ℕ) → HasEncoding (λ m n. B m k) encoding (λ m v. 0) (λ m. Fits m k)
on_level x k = record {
  in_bytes = λ m v fits. x.in_bytes m k v fits;
  holds = λ m o n v h fits level. x.holds m o k v h fits;
  only = λ m n v b h p. let y = x.only m k v b h p in (y.0, y.1, omega arith);
}

no_levels : {A : Type 0} (m : BERMode) (vs : List A) → elements_depth (λ m v. 0) m vs ≡ 0
no_levels m [] = refl
no_levels m (v ∷ vs) = omega (arith, no_levels m vs)

-- a SET OF of elements by one relation is one by another that is wider on the level inside
set_of_wider : {A : Type 0} (B C : Grammar A) (t : Tag) (m : BERMode) (k : ℕ) → ((v : A) (b : List ℕ) → B m k v b → C m k v b) →
    (vs : List A) (b : List ℕ) → InSomeOrder (IsSetOf B t) m (suc k) vs b → InSomeOrder (IsSetOf C t) m (suc k) vs b
set_of_wider B C t m k f vs b p =
    let x = p.encoded.meaning in
    record {
      items = p.items;
      permuted = p.permuted;
      encoded = record {
        contents = p.encoded.contents;
        element = p.encoded.element;
        meaning = record {
          elements = record {
            pieces = x.elements.pieces;
            each = each_wider f p.items x.elements.pieces x.elements.each;
            joined = x.elements.joined;
          };
          order = x.order;
        };
      };
    }

module _ {A : Type 0} {E : A → A → Type 0} {B : Grammar A} {encoding : Encoding A} {Fits : Fitting A} {Can : A → Type 0} (t : Tag)
    (range : t.tag_number < 2 ^ 64) (x : IsExact E B encoding Fits Can) where
  exact_bytes : (m : BERMode) (n : ℕ) (vs : List A) → enclosed_fits (elements_fit Fits) m n vs → length (sorted_set_of_encoding encoding t m vs) < 2 ^ 64 →
      IsBytes (sorted_set_of_encoding encoding t m vs)
  exact_bytes m zero vs fits short = absurd fits
  exact_bytes m (suc n) vs fits short = (any_set_of_has (on_level x n) t range).in_bytes m vs fits short

  exact_holds : (m o : BERMode) (n : ℕ) (vs : List A) → HoldsEncoding m o → enclosed_fits (elements_fit Fits) m n vs →
      length (sorted_set_of_encoding encoding t m vs) < 2 ^ 64 → InSomeOrder (IsSetOf B t) o n vs (sorted_set_of_encoding encoding t m vs)
  exact_holds m o zero vs h fits short = absurd fits
  exact_holds m o (suc n) vs h fits short =
      set_of_wider (λ o k. B o n) B t o n (λ v b y. y) vs (sorted_set_of_encoding encoding t m vs)
      ((any_set_of_has (on_level x n) t range).holds m o (suc n) vs h fits (omega (arith, no_levels m vs)) short)

  exact_only : (m : BERMode) (n : ℕ) (vs : List A) (b : List ℕ) → IsCanonicalMode m → InSomeOrder (IsSetOf B t) m n vs b →
      (b ≡ sorted_set_of_encoding encoding t m vs) × enclosed_fits (elements_fit Fits) m n vs
  exact_only m zero vs b h p = absurd (p.encoded)
  exact_only m (suc n) vs b h p =
      let y = (any_set_of_has (on_level x n) t range).only m (suc n) vs b h (set_of_wider B (λ m k. B m n) t m n (λ v c z. z) vs b p) in
      (y.0, y.1)

  exact_can : (m : BERMode) (n : ℕ) (vs : List A) → enclosed_fits (elements_fit Fits) m n vs → AllByRecursion Can vs
  exact_can m zero vs fits = absurd fits
  exact_can m (suc n) vs fits = all_contained Can vs (λ v c. x.can m n v (all_at (Fits m n) vs fits v c))

  exact_fits : (m : BERMode) (vs ws : List A) → SameSetOf E vs ws → (n : ℕ) → enclosed_fits (elements_fit Fits) m n vs →
      enclosed_fits (elements_fit Fits) m n ws
  exact_fits m vs ws e zero fits = fits
  exact_fits m vs ws e (suc n) fits = all_same (Fits m n) (λ v w d. (x.same m v w d).2 n) vs ws e fits

  -- a SET OF in some order satisfies the laws of a canonical mode, where its elements do
  pub any_set_of_exact : IsExact (SameSetOf E) (InSomeOrder (IsSetOf B t)) (sorted_set_of_encoding encoding t) (enclosed_fits (elements_fit Fits))
      (λ vs. AllByRecursion Can vs)
  any_set_of_exact = record {
    in_bytes = exact_bytes;
    holds = exact_holds;
    only = exact_only;
    can = exact_can;
    same = λ m vs ws e. (
      sorted_encoding_same encoding t m (λ v w d. (x.same m v w d).0) vs ws e,
      all_same Can (λ v w d. (x.same m v w d).1) vs ws e,
      exact_fits m vs ws e,
    );
  }
