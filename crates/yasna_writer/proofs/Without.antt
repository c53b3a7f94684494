-- Bytes without those that are in front.
use Rattle.std.proofs.Common.{◌≡◌, ℕ, zero, suc, ◌*◌, ◌^◌, ◌<◌, ◌≤◌, List, [], ◌∷◌, length, get_or, cond, refl, sym, ap, ◌∙◌, arith, ◌⊎◌, inl, inr}
use Rattle.std.proofs.lemmas.Bool.Decides.{eqb_tells}
use Rattle.std.specs.Int.Digits.{number_from_digits}
use Rattle.yasna_base.specs.Digits.{IsBytes, digits}
use Rattle.yasna_base.proofs.Digits.{number_cons, digits_only}
use Rattle.yasna_base.specs.BigInteger.{trim_leading}

-- either a byte is dropped, or nothing is
pub without_cases : (x y : ℕ) (ys : List ℕ) → ((y ≡ x) × (trim_leading x (y ∷ ys) ≡ trim_leading x ys)) ⊎ ((y ≡ x → ⊥) × (trim_leading x (y ∷ ys) ≡ y ∷ ys))
without_cases x y ys = elim (eqb_tells y x) [
  | inl e ↦ inl (e.1, ap (λ t. cond t (trim_leading x ys) (y ∷ ys)) e.0)
  | inr e ↦ inr (e.1, ap (λ t. cond t (trim_leading x ys) (y ∷ ys)) e.0)
]

pub without_bytes : (x : ℕ) (b : List ℕ) → IsBytes b → IsBytes (trim_leading x b)
without_bytes x [] h = h
without_bytes x (y ∷ ys) h = elim (without_cases x y ys) [
  | inl p ↦ rw p.1 (without_bytes x ys h.1)
  | inr p ↦ rw p.1 h
]

pub without_shorter : (x : ℕ) (b : List ℕ) → length (trim_leading x b) ≤ length b
without_shorter x [] = omega arith
without_shorter x (y ∷ ys) = elim (without_cases x y ys) [
  | inl p ↦ omega (arith, ap length p.1, without_shorter x ys)
  | inr p ↦ omega (arith, ap length p.1)
]

-- what is left doesn't begin with the byte
pub without_first : (x y : ℕ) (b ys : List ℕ) → trim_leading x b ≡ y ∷ ys → y ≡ x → ⊥
without_first x y [] ys e f = cc
without_first x y (z ∷ zs) ys e f = elim (without_cases x z zs) [
  | inl p ↦ without_first x y zs ys (sym p.1 ∙ e) f
  | inr p ↦ let g = sym p.1 ∙ e in p.0 (cc)
]

begins_positive : (c : List ℕ) → ((y : ℕ) (ys : List ℕ) → c ≡ y ∷ ys → y ≡ 0 → ⊥) → 0 < number_from_digits 256 c → 0 < get_or c 0 0
begins_positive [] f h = h
begins_positive (zero ∷ ys) f h = absurd (f zero ys refl refl)
begins_positive (suc y ∷ ys) f h = omega arith

-- zeros in front don't count
pub without_number : (b : List ℕ) → number_from_digits 256 (trim_leading 0 b) ≡ number_from_digits 256 b
without_number [] = refl
without_number (y ∷ ys) = elim (without_cases 0 y ys) [
  | inl p ↦ let whole = number_cons 256 y ys in let here = ap (λ z. z * 256 ^ length ys) p.0 in
      let more = ap (number_from_digits 256) p.1 ∙ without_number ys in omega arith
  | inr p ↦ ap (number_from_digits 256) p.1
]

first_positive : (b : List ℕ) → 0 < number_from_digits 256 (trim_leading 0 b) → 0 < get_or (trim_leading 0 b) 0 0
first_positive b h = begins_positive (trim_leading 0 b) (λ y ys. without_first 0 y b ys) h

-- the digits of a positive number are its bytes without the zeros in front
pub digits_without : (b : List ℕ) → IsBytes b → 0 < number_from_digits 256 b → digits 256 (number_from_digits 256 b) ≡ trim_leading 0 b
digits_without b h p =
    let n = without_number b in
    ap (digits 256) (sym n) ∙ digits_only 256 (trim_leading 0 b) (omega arith) (without_bytes 0 b h) (first_positive b (omega arith))
