-- How long an element is, by the length of its contents.
use Rattle.std.proofs.Common.{◌≡◌, ℕ, ◌+◌, ◌-◌, ◌*◌, ◌^◌, ◌<◌, ◌≤◌, List, [], ◌∷◌, ◌++◌, length, take, get_or, inl, inr, refl, ap, sym, ◌∙◌, arith, length-append, length-drop, ℤ}
use Rattle.std.proofs.lemmas.List.{flat_map_more, take_more}
use Rattle.std.specs.List.{flat_map}
use Rattle.std.specs.Prelude.{Bool, true, false, if◌then◌else◌, Option, Some, None, SomeIff}
use Rattle.std.proofs.lemmas.Option.{IfSome_then}
use Rattle.std.specs.Ordering.{is_lt}
use Rattle.std.specs.declared.cmp.Ordering.{Ordering}
use Rattle.std.proofs.lemmas.Bool.{cases_lt}
use Rattle.std.specs.Int.{w64, cast_unsigned, to_be_bytes}
use mir.Val.{SFits}
use Rattle.yasna_base.specs.declared.mode.BERMode.{BERMode}
use Rattle.yasna_base.specs.declared.mode.BERMode.TheVariants.{Ber, Der, Cer}
use Rattle.yasna_base.specs.declared.tag.PCBit.{PCBit}
use Rattle.yasna_base.specs.declared.tag.PCBit.TheVariants.{Primitive, Constructed}
use Rattle.yasna_base.specs.declared.tag.Tag.{Tag}
use Rattle.yasna_base.specs.Canonical.{canonical_element, definite_element, indefinite_element}
use Rattle.yasna_base.specs.Identifier.{identifier}
use Rattle.yasna_base.specs.Integer.{distance, minimal_bytes}
use Rattle.yasna_base.specs.Length.{shortest_length}
use Rattle.yasna_base.specs.Order.{put_in, in_order}
use Rattle.yasna_base.specs.Raw.{raw_encoding}
use Rattle.yasna_base.specs.Segmented.{Segmentation, segmented_encoding}
use Rattle.yasna_base.proofs.Identifier.{identifier_short, identifier_long}
use Rattle.yasna_writer.specs.Prepend.{KnownLength}
use Rattle.yasna_writer.specs.Segments.{is_cut}
use Rattle.yasna_writer.proofs.BigEndian.{be_bytes, be_length}
use Rattle.yasna_writer.proofs.Integers.{fewest, be_twos}

-- a length that is a sum, if that is known
pub known_sum : (P : Type 0) (b : List ℕ) (n : ℕ) (r : Option ℕ) → SomeIff r P n → n ≡ length b → KnownLength b r
known_sum P b n None h e = tt
known_sum P b n (Some x) h e = h.1 ∙ e

-- bytes of one length have one known length
pub known_same : (a b : List ℕ) (r : Option ℕ) → length a ≡ length b → KnownLength a r → KnownLength b r
known_same a b r e h = IfSome_then r h (λ x f. f ∙ e)

-- a string that isn't cut is one primitive element
pub stays_whole : {A : Type 0} (k : Segmentation A) (contents : A → List ℕ) (pieces : A → List A) (t : Tag) (m : BERMode) (v : A) →
    is_cut m k.full (length (k.bytes v)) ≡ false → canonical_element m t Primitive (contents v) ≡ segmented_encoding k contents pieces t m v
stays_whole k contents pieces t Ber v h = refl
stays_whole k contents pieces t Der v h = refl
stays_whole k contents pieces t Cer v h = rw h refl

-- the bit changes no length
identifier_alike : (t : Tag) (p q : PCBit) → length (identifier t p) ≡ length (identifier t q)
identifier_alike t p q = elim (cases_lt t.tag_number 31) [
  | inl l ↦ omega (arith, ap length (identifier_short t p l), ap length (identifier_short t q l))
  | inr l ↦ omega (arith, ap length (identifier_long t p l), ap length (identifier_long t q l))
]

-- of definite length
pub definite_length : (t : Tag) (p : PCBit) (c : List ℕ) →
    length (definite_element t p c) ≡ length c + length (identifier t Constructed ++ shortest_length (length c))
unfolding definite_element
definite_length t p c =
    omega (
      arith,
      length-append (identifier t p) (shortest_length (length c) ++ c),
      length-append (shortest_length (length c)) c,
      length-append (identifier t Constructed) (shortest_length (length c)),
      identifier_alike t p Constructed,
    )

-- of indefinite length
pub indefinite_length : (t : Tag) (c : List ℕ) → length (indefinite_element t c) ≡ length c + (length (identifier t Constructed) + 3)
unfolding indefinite_element
indefinite_length t c = omega (arith, length-append (identifier t Constructed) (128 ∷ (c ++ (0 ∷ 0 ∷ []))), length-append c (0 ∷ 0 ∷ []))

-- of indefinite length, whose payload has the two zeros
pub indefinite_raw_length : (t : Tag) (c : List ℕ) → length (identifier t Constructed ++ (128 ∷ c)) ≡ length c + (length (identifier t Constructed) + 1)
indefinite_raw_length t c = omega (arith, length-append (identifier t Constructed) (128 ∷ c))

-- the encoding of a raw element that is primitive
pub raw_primitive : (m : BERMode) (t own : Tag) (c : List ℕ) →
    canonical_element m t Primitive c ≡ raw_encoding t m (record { tag = own; bit = Primitive; payload = c })
raw_primitive Ber t own c = refl
raw_primitive Der t own c = refl
raw_primitive Cer t own c = refl

-- of a number of 64 bits, by how far it is from 0
pub minimal_length :
    (z : ℤ) (n : ℕ) → SFits w64 z → 1 ≤ n → n ≤ 8 → distance z < 128 * 256 ^ (n - 1) → (2 ≤ n → 128 * 256 ^ (n - 2) ≤ distance z)
    → length (minimal_bytes z) ≡ n
minimal_length z n fits some few below least =
    let b = to_be_bytes w64 (cast_unsigned w64 z) in
    let last = fewest (8 - n) (n - 1) b z (be_bytes (cast_unsigned w64 z)) (be_twos z fits) (omega (arith, be_length (cast_unsigned w64 z))) below
    (λ i. let e : (n - 1) - 1 ≡ n - 2 = omega arith in rw e (least (omega arith))) in
    omega (arith, ap length last, length-drop (8 - n) b, be_length (cast_unsigned w64 z))

module _ {A : Type 0} (f : A → List ℕ) where
  -- one item more takes its bytes more
  pub items_length_more : (xs : List A) (i : ℕ) (v : A) → i < length xs → v ≡ get_or xs i v →
      length (flat_map f (take (i + 1) xs)) ≡ length (flat_map f (take i xs)) + length (f v)
  items_length_more xs i v below is =
      let joined : flat_map f (take i xs) ++ f v ≡ flat_map f (take (i + 1) xs) =
      flat_map_more f [] (take i xs) v ∙ ap (λ z. flat_map f (take i xs ++ z ∷ [])) is ∙ ap (λ z. flat_map f z) (sym (take_more xs i v below)) in
      omega (arith, ap length joined, length-append (flat_map f (take i xs)) (f v))

  either_length : (b : Bool) (xs ys : List A) (n : ℕ) → length (flat_map f xs) ≡ n → length (flat_map f ys) ≡ n →
      length (flat_map f (if b then xs else ys)) ≡ n
  either_length true xs ys n e g = e
  either_length false xs ys n e g = g

  put_in_length : (R : A → A → Ordering) (x : A) (xs : List A) → length (flat_map f (put_in R x xs)) ≡ length (f x) + length (flat_map f xs)
  put_in_length R x [] = length-append (f x) []
  put_in_length R x (y ∷ ys) =
      either_length (is_lt (R y x)) (y ∷ put_in R x ys) (x ∷ (y ∷ ys)) (length (f x) + length (flat_map f (y ∷ ys)))
      (omega (arith, length-append (f y) (flat_map f (put_in R x ys)), put_in_length R x ys, length-append (f y) (flat_map f ys)))
      (length-append (f x) (flat_map f (y ∷ ys)))

  -- the order changes no length
  pub in_order_length : (R : A → A → Ordering) (xs : List A) → length (flat_map f (in_order R xs)) ≡ length (flat_map f xs)
  in_order_length R [] = refl
  in_order_length R (x ∷ xs) = omega (arith, put_in_length R x (in_order R xs), in_order_length R xs, length-append (f x) (flat_map f xs))

-- at most one item is in order
pub few_in_order : {A : Type 0} (R : A → A → Ordering) (xs : List A) → length xs ≤ 1 → in_order R xs ≡ xs
few_in_order R [] h = refl
few_in_order R (x ∷ []) h = refl
few_in_order R (x ∷ y ∷ ys) h = absurd (omega (arith, h))
