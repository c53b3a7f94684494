-- Digits in base 128, one step at a time.
use Rattle.std.proofs.Common.{take, get_or, inl, inr, ◌≡◌, ℕ, zero, suc, ◌+◌, ◌/◌, ◌%◌, ◌^◌, ◌<◌, ◌≤◌, List, [], ◌∷◌, ◌++◌, length, map, refl, sym, ap, ◌∙◌, arith, length-append, mod-eq_of_lt}
use Rattle.std.proofs.lemmas.Bool.{cases_lt}
use Rattle.std.proofs.lemmas.List.{map-append}
use Rattle.std.proofs.lemmas.Int.Digits.{digits_of_step}
use Rattle.std.proofs.Math.Nat.{le-div_iff_mul-le}
use Rattle.std.specs.Int.Digits.{digits_of}
use Rattle.std.specs.List.{flat_map}
use Rattle.std.specs.Prelude.{Bool, true, false}
use Rattle.yasna_base.specs.Digits.{digits, marked, base128}
use Rattle.yasna_base.proofs.Digits.{digits_small, digits_length}
use Rattle.yasna_writer.specs.Identifier.{base128_digits, base128_byte}

digits_are : (b k : ℕ) → 2 ≤ b → 0 < k → digits_of b k ≡ digits b k
unfolding digits
digits_are b zero two h = absurd (omega arith)
digits_are b (suc k) two h = refl

positive_quotient : (b k : ℕ) → 2 ≤ b → b ≤ k → 0 < k / b
positive_quotient b k two h = (le-div_iff_mul-le {x = 1} (omega arith)).1 (omega arith)

-- a number from the base on has the digits of its quotient, and then its remainder
pub digits_step : (b k : ℕ) → 2 ≤ b → b ≤ k → digits b k ≡ digits b (k / b) ++ (k % b ∷ [])
unfolding digits
digits_step b zero two h = absurd (omega arith)
digits_step b (suc k) two h = digits_of_step b (suc k) two (omega arith) ∙ ap (λ ds. ds ++ (suc k % b ∷ []))
    (digits_are b (suc k / b) two (positive_quotient b (suc k) two h))

-- with another digit after them, all digits are marked
pub marked_push : (ds : List ℕ) (d : ℕ) → marked (ds ++ (d ∷ [])) ≡ map (λ e. 128 + e) ds ++ (d ∷ [])
marked_push [] d = refl
marked_push (e ∷ []) d = refl
marked_push (e ∷ f ∷ ds) d = ap (λ z. (128 + e) ∷ z) (marked_push (f ∷ ds) d)

pub base128_small : (k : ℕ) → k < 128 → base128 k ≡ k ∷ []
unfolding base128
base128_small k h = rw (digits_small 128 k (omega arith) h)

pub base128_step : (k : ℕ) → 128 ≤ k → base128 k ≡ map (λ d. 128 + d) (digits 128 (k / 128)) ++ (k % 128 ∷ [])
unfolding base128
base128_step k h = ap marked (digits_step 128 k (omega arith) h) ∙ marked_push (digits 128 (k / 128)) (k % 128)

marked_length : (ds : List ℕ) → length (marked ds) ≡ length ds
marked_length [] = refl
marked_length (d ∷ []) = refl
marked_length (d ∷ e ∷ ds) = ap suc (marked_length (e ∷ ds))

pub base128_length_is : (k : ℕ) → length (base128 k) ≡ length (digits 128 k)
unfolding base128
base128_length_is k = marked_length (digits 128 k)

-- a number of 64 bits takes ten bytes at most
pub base128_length_at_most : (k : ℕ) → k < 2 ^ 64 → length (base128 k) ≤ 10
base128_length_at_most k h = omega (arith, base128_length_is k, digits_length 128 k 10 (omega arith) (omega arith) (omega arith))

pub base128_length_small : (k : ℕ) → k < 128 → length (base128 k) ≡ 1
base128_length_small k h = ap length (base128_small k h)

-- one byte more than the quotient
pub base128_length_step : (k : ℕ) → 128 ≤ k → length (base128 k) ≡ length (base128 (k / 128)) + 1
base128_length_step k h =
    omega (
      arith,
      base128_length_is k,
      base128_length_is (k / 128),
      ap length (digits_step 128 k (omega arith) h),
      length-append (digits 128 (k / 128)) (k % 128 ∷ []),
    )

pub base128_digits_small : (more : Bool) (k : ℕ) → k < 128 → base128_digits more k ≡ base128_byte more k ∷ []
unfolding base128_digits
base128_digits_small true k h = rw (digits_small 128 k (omega arith) h, mod-eq_of_lt h)
base128_digits_small false k h = base128_small k h ∙ ap (λ n. n ∷ []) (sym (mod-eq_of_lt h))

pub base128_digits_step : (more : Bool) (k : ℕ) → 128 ≤ k → base128_digits more k ≡ base128_digits true (k / 128) ++ (base128_byte more k ∷ [])
unfolding base128_digits
base128_digits_step true k h = ap (map (λ d. 128 + d)) (digits_step 128 k (omega arith) h) ∙ map-append (λ d. 128 + d) (digits 128 (k / 128)) (k % 128 ∷ [])
base128_digits_step false k h = base128_step k h

pub base128_digits_longer : (more : Bool) (k : ℕ) → 128 ≤ k → length (base128_digits more k) ≡ length (base128_digits true (k / 128)) + 1
base128_digits_longer more k h =
    omega (arith, ap length (base128_digits_step more k h), length-append (base128_digits true (k / 128)) (base128_byte more k ∷ []))

-- one digit at least, and one more than the quotient has
pub base128_digits_some : (more : Bool) (k : ℕ) → 1 ≤ length (base128_digits more k)
base128_digits_some more k = elim (cases_lt k 128) [
  | inl l ↦ omega (arith, ap length (base128_digits_small more k l))
  | inr l ↦ omega (arith, base128_digits_longer more k l)
]

-- a number of two bytes
pub base128_two : (k : ℕ) → 128 ≤ k → k < 16384 → base128 k ≡ (128 + k / 128) ∷ k % 128 ∷ []
base128_two k h l =
    let q : k / 128 < 128 = omega arith in
    base128_step k h ∙ ap (λ ds. map (λ d. 128 + d) ds ++ (k % 128 ∷ [])) (digits_small 128 (k / 128) (omega arith) q)

-- a number of three bytes
pub base128_three : (k : ℕ) → 16384 ≤ k → k < 2097152 → base128 k ≡ (128 + k / 128 / 128) ∷ (128 + k / 128 % 128) ∷ k % 128 ∷ []
base128_three k h l =
    let q : k / 128 / 128 < 128 = omega arith in
    let g : 128 ≤ k / 128 = omega arith in
    base128_step k (omega arith) ∙ ap (λ ds. map (λ d. 128 + d) ds ++ (k % 128 ∷ []))
    (digits_step 128 (k / 128) (omega arith) g ∙ ap (λ ds. ds ++ (k / 128 % 128 ∷ [])) (digits_small 128 (k / 128 / 128) (omega arith) q))

length_more : (ks : List ℕ) (i : ℕ) → i < length ks →
    length (flat_map base128 (take (suc i) ks)) ≡ length (flat_map base128 (take i ks)) + length (base128 (get_or ks i 0))
length_more [] i h = absurd (omega arith)
length_more (k ∷ ks) zero h = omega (arith, length-append (base128 k) [])
length_more (k ∷ ks) (suc i) h =
    omega (
      arith,
      length-append (base128 k) (flat_map base128 (take (suc i) ks)),
      length-append (base128 k) (flat_map base128 (take i ks)),
      length_more ks i (omega arith),
    )

-- one number more takes its bytes more
pub numbers_length_more : (ks : List ℕ) (i : ℕ) → i < length ks →
    length (flat_map base128 (take (i + 1) ks)) ≡ length (flat_map base128 (take i ks)) + length (base128 (get_or ks i 0))
numbers_length_more ks i h = let e : i + 1 ≡ suc i = omega arith in ap (λ j. length (flat_map base128 (take j ks))) e ∙ length_more ks i h
