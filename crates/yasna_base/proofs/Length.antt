-- The length octets: of two spelled lengths neither begins the other, the fewest bytes are a spelling, and what bytes that
-- begin with a spelled length look like.
use Rattle.std.proofs.Common.{◌≡◌, ℕ, ◌+◌, ◌^◌, ◌<◌, ◌≤◌, List, [], ◌∷◌, ◌++◌, length, get_or, refl, ap, ◌∙◌, sym, inl, inr, arith, subst, le-ltb}
use Rattle.std.proofs.lemmas.Bool.{cases_lt}
use Rattle.std.proofs.lemmas.Bool.Decides.{nat_tests}
use Rattle.std.specs.Int.Digits.{number_from_digits}
use Rattle.yasna_base.specs.declared.mode.BERMode.{BERMode}
use Rattle.yasna_base.specs.declared.mode.BERMode.TheVariants.{Ber, Der, Cer}
use Rattle.yasna_base.specs.Canonical.{IsCanonicalMode}
use Rattle.yasna_base.specs.Digits.{IsBytes, digits}
use Rattle.yasna_base.specs.Length.{shortest_length, IsLongLength, one_byte, counted, SpellsLength}
use Rattle.yasna_base.proofs.Digits.{digits_below, digits_some, digits_first, number_digits, digits_length, digits_only}
use Rattle.yasna_base.proofs.Lists.{prefixes_same, prefixes_as}

-- a length below 128 is its one byte
pub short_length : (k : ℕ) → k < 128 → shortest_length k ≡ k ∷ []
unfolding shortest_length
short_length k h = grind (arith, nat_tests)

-- a length from 128 on is its digits after their count
pub counted_length : (k : ℕ) → 128 ≤ k → shortest_length k ≡ (128 + length (digits 256 k)) ∷ digits 256 k
unfolding shortest_length
counted_length k h = grind (arith, nat_tests)

-- the fewest bytes spell the length
pub shortest_spells : (k : ℕ) → k < 2 ^ 64 → IsLongLength k (shortest_length k)
shortest_spells k h = elim (cases_lt k 128) [
  | inl i ↦ one_byte i (short_length k i)
  | inr i ↦ let j : length (digits 256 k) ≤ 8 = digits_length 256 k 8 (omega arith) (omega arith) h in
      counted (digits 256 k) (digits_some 256 k (omega arith)) (omega arith) (digits_below 256 k (omega arith)) (number_digits 256 k (omega arith))
      (counted_length k i)
]

-- each mode takes the fewest bytes
pub shortest_in_mode : (m : BERMode) (k : ℕ) → k < 2 ^ 64 → SpellsLength m k (shortest_length k)
shortest_in_mode Ber k h = (h, shortest_spells k h)
shortest_in_mode Der k h = (h, refl)
shortest_in_mode Cer k h = (h, refl)

-- a canonical mode takes nothing but the fewest bytes
pub spells_shortest : (m : BERMode) (k : ℕ) (l : List ℕ) → IsCanonicalMode m → SpellsLength m k l → l ≡ shortest_length k
spells_shortest Ber k l c x = absurd c
spells_shortest Der k l c x = x.1
spells_shortest Cer k l c x = x.1

-- what a mode takes is a spelling in the widest sense
pub spells_long : (m : BERMode) (k : ℕ) (l : List ℕ) → SpellsLength m k l → IsLongLength k l
spells_long Ber k l x = x.1
spells_long Der k l x = rw (x.1) (shortest_spells k x.0)
spells_long Cer k l x = rw (x.1) (shortest_spells k x.0)

-- a spelled length fits 64 bits
pub spells_below : (m : BERMode) (k : ℕ) (l : List ℕ) → SpellsLength m k l → k < 2 ^ 64
spells_below Ber k l x = x.0
spells_below Der k l x = x.0
spells_below Cer k l x = x.0

long_exact : (j k : ℕ) (a b r s : List ℕ) → IsLongLength j a → IsLongLength k b → a ++ r ≡ b ++ s → (j ≡ k) × (a ≡ b) × (r ≡ s)
long_exact j k a b r s (one_byte h e) (one_byte i f) g = let w = prefixes_as r s e f g in (cc, cc, cc)
long_exact j k a b r s (one_byte h e) (counted es _ _ _ _ f) g = let w : j ≡ 128 + length es = cc (prefixes_as r s e f g) in absurd (omega arith)
long_exact j k a b r s (counted ds _ _ _ _ e) (one_byte i f) g = let w : 128 + length ds ≡ k = cc (prefixes_as r s e f g) in absurd (omega arith)
long_exact j k a b r s (counted ds _ _ _ m e) (counted es _ _ _ n f) g =
    let w = prefixes_as r s e f g in
    let h : 128 + length ds ≡ 128 + length es = cc in
    let x = prefixes_same ds es r s (omega arith) (cc) in
    (cc, cc, x.1)

-- of two spelled lengths neither begins the other, and equal bytes spell equal lengths
pub length_exact : (m o : BERMode) (j k : ℕ) (a b r s : List ℕ) → SpellsLength m j a → SpellsLength o k b → a ++ r ≡ b ++ s → (j ≡ k) × (a ≡ b) × (r ≡ s)
length_exact m o j k a b r s x y e = long_exact j k a b r s (spells_long m j a x) (spells_long o k b y) e

not_128 : (k : ℕ) (a r s : List ℕ) → IsLongLength k a → a ++ r ≡ 128 ∷ s → ⊥
not_128 k a r s (one_byte h e) f = let w : k ≡ 128 = cc (sym (ap (λ z. z ++ r) e) ∙ f) in omega arith
not_128 k a r s (counted ds h _ _ _ e) f = let w : 128 + length ds ≡ 128 = cc (sym (ap (λ z. z ++ r) e) ∙ f) in omega arith

-- no spelled length begins with the byte 128, which announces contents of indefinite length
pub length_not_indefinite : (m : BERMode) (k : ℕ) (a r s : List ℕ) → SpellsLength m k a → a ++ r ≡ 128 ∷ s → ⊥
length_not_indefinite m k a r s x e = not_128 k a r s (spells_long m k a x) e

-- a length in the fewest bytes is bytes
pub shortest_bytes : (k : ℕ) → k < 2 ^ 64 → IsBytes (shortest_length k)
shortest_bytes k h = elim (cases_lt k 128) [
  | inl i ↦ subst IsBytes (sym (short_length k i)) (omega arith, tt)
  | inr i ↦
      let j : length (digits 256 k) ≤ 8 = digits_length 256 k 8 (omega arith) (omega arith) h in
      subst IsBytes (sym (counted_length k i)) (omega arith, digits_below 256 k (omega arith))
]

-- a counted length of 128 or more without a leading zero is the shortest
pub shortest_only : (ds : List ℕ) → IsBytes ds → 0 < get_or ds 0 0 → 128 ≤ number_from_digits 256 ds →
    shortest_length (number_from_digits 256 ds) ≡ (128 + length ds) ∷ ds
unfolding shortest_length
shortest_only ds p h k = rw (le-ltb (number_from_digits 256 ds) 128 k) (ap (λ x. (128 + length x) ∷ x) (digits_only 256 ds (omega arith) p h))

-- x is the length k itself, or counts the digits of k that y begins with
pub data LengthPrefix (m : BERMode) (x : ℕ) (y : List ℕ) (k : ℕ) : Type 0 where
  small : x < 128 → k ≡ x → LengthPrefix m x y k
  large : (ds r : List ℕ) → x ≡ 128 + length ds → 1 ≤ length ds → length ds ≤ 126 → y ≡ ds ++ r → number_from_digits 256 ds ≡ k → k < 2 ^ 64 →
      (IsCanonicalMode m → (128 ≤ k) × (0 < get_or ds 0 0)) → LengthPrefix m x y k

counted_shortest : (k : ℕ) (ds : List ℕ) → 1 ≤ length ds → (128 + length ds) ∷ ds ≡ shortest_length k → (128 ≤ k) × (0 < get_or ds 0 0)
counted_shortest k ds h e = elim (cases_lt k 128) [
  | inl i ↦ let f : ds ≡ [] = cc (e ∙ short_length k i) in absurd (omega (arith, ap length f))
  | inr i ↦ let f : ds ≡ digits 256 k = cc (e ∙ counted_length k i) in (i, rw f (digits_first 256 k (omega arith) (omega arith)))
]

canonical_counted : (m : BERMode) (k : ℕ) (ds l : List ℕ) → SpellsLength m k l → 1 ≤ length ds → l ≡ (128 + length ds) ∷ ds → IsCanonicalMode m →
    (128 ≤ k) × (0 < get_or ds 0 0)
canonical_counted m k ds l x h e c = counted_shortest k ds h (sym e ∙ spells_shortest m k l c x)

-- bytes that begin with a spelled length are of one of the two kinds
pub length_prefix : (m : BERMode) (x : ℕ) (y : List ℕ) (k : ℕ) (l r : List ℕ) → SpellsLength m k l → x ∷ y ≡ l ++ r → LengthPrefix m x y k
length_prefix m x y k l r w e = elim (spells_long m k l w) [
  | one_byte h f ↦ let g = e ∙ ap (λ z. z ++ r) f in let i : x ≡ k = cc in small (omega arith) (cc)
  | counted ds h i b n f ↦ let g = e ∙ ap (λ z. z ++ r) f in large ds r (cc) h i (cc) n (spells_below m k l w) (canonical_counted m k ds l w h f)
]

-- no bytes at all do not begin with a spelled length
pub not_empty : (m : BERMode) (k : ℕ) (l r : List ℕ) → SpellsLength m k l → [] ≡ l ++ r → ⊥
not_empty m k l r w e = elim (spells_long m k l w) [
  | one_byte h f ↦ let g = e ∙ ap (λ z. z ++ r) f in cc
  | counted ds h i b n f ↦ let g = e ∙ ap (λ z. z ++ r) f in cc
]

-- a byte below 128 spells itself
pub short_spells : (m : BERMode) (x : ℕ) → x < 128 → SpellsLength m x (x ∷ [])
short_spells Ber x h = (omega arith, one_byte h refl)
short_spells Der x h = (omega arith, sym (short_length x h))
short_spells Cer x h = (omega arith, sym (short_length x h))

-- a count and digits spell the digits' number
pub long_spells : (m : BERMode) (ds : List ℕ) → IsBytes ds → 1 ≤ length ds → length ds ≤ 126 → number_from_digits 256 ds < 2 ^ 64 →
    (IsCanonicalMode m → (128 ≤ number_from_digits 256 ds) × (0 < get_or ds 0 0)) → SpellsLength m (number_from_digits 256 ds) ((128 + length ds) ∷ ds)
long_spells Ber ds x h i j f = (j, counted ds h i x refl refl)
long_spells Der ds x h i j f = let g = f tt in (j, sym (shortest_only ds x (g.1) (g.0)))
long_spells Cer ds x h i j f = let g = f tt in (j, sym (shortest_only ds x (g.1) (g.0)))
