-- Digits of texts.
use Rattle.std.proofs.Common.{◌≡◌, ℕ, zero, suc, ◌+◌, ◌-◌, ◌*◌, ◌/◌, ◌%◌, ◌<◌, List, [], ◌∷◌, ◌++◌, arith, inl, inr}
use Rattle.std.proofs.lemmas.Bool.{cases_order}
use Rattle.std.specs.Str.{IsAscii}
use Rattle.yasna_times.specs.Decimal.{HasDigits, IsRun, two_digits}
use Rattle.yasna_base.specs.Digits.{IsBytes}

-- digits end at one place
pub run_is : (s : List ℕ) (i j k : ℕ) → IsRun s i j → IsRun s i k → j ≡ k
run_is s i j k a b =
    elim (cases_order j k) [
      | inl e ↦ e
      | inr (inl lt) ↦ absurd (a.stops (omega (arith, b.inside)) (b.digits j a.order lt))
      | inr (inr gt) ↦ absurd (b.stops (omega (arith, a.inside)) (a.digits k b.order gt))
    ]

-- two digits spell their number
pub two_spelled : (n : ℕ) → n < 100 → (48 + n / 10 - 48) * 10 + (48 + n % 10 - 48) ≡ n
two_spelled n h = omega arith

-- two digits before others
pub two_before : (n : ℕ) (s : List ℕ) (j : ℕ) → n < 100 → HasDigits s 0 j → HasDigits (two_digits n ++ s) 0 (j + 2)
two_before n s j h d zero low lt = (omega arith, omega arith)
two_before n s j h d (suc zero) low lt = (omega arith, omega arith)
two_before n s j h d (suc (suc k)) low lt = d k (omega arith) (omega arith)

pub no_digits : (s : List ℕ) → HasDigits s 0 0
no_digits s k low lt = absurd (omega arith)

pub ascii_cons : (b : ℕ) (s : List ℕ) → b < 128 → IsAscii s → IsAscii (b ∷ s)
ascii_cons b s h a zero = h
ascii_cons b s h a (suc k) = a k

-- two digits before other ASCII
pub ascii_two : (n : ℕ) (s : List ℕ) → n < 100 → IsAscii s → IsAscii (two_digits n ++ s)
ascii_two n s h a = ascii_cons (48 + n / 10) ((48 + n % 10) ∷ s) (omega arith) (ascii_cons (48 + n % 10) s (omega arith) a)

pub ascii_bytes : (s : List ℕ) → IsAscii s → IsBytes s
ascii_bytes [] a = tt
ascii_bytes (x ∷ s) a = let h : x < 128 = a 0 in (omega arith, ascii_bytes s (λ k. a (suc k)))
