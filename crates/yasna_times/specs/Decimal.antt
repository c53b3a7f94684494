-- Decimal digits in ASCII, of which the texts of times are made.
use Rattle.std.specs.Prelude.{ℕ, ◌+◌, ◌-◌, ◌*◌, ◌/◌, ◌%◌, ◌^◌, ◌<◌, ◌≤◌, List, [], ◌∷◌, length, slice_index}
use Rattle.yasna_base.specs.Text.{IsDigit}

-- each byte is a digit
abbrev pub AreDigits : List ℕ → Type 0
AreDigits ds = (k : ℕ) → k < length ds → IsDigit (slice_index ds k)

-- the bytes of s from i up to j are digits
abbrev pub HasDigits : List ℕ → ℕ → ℕ → Type 0
HasDigits s i j = (k : ℕ) → i ≤ k → k < j → IsDigit (slice_index s k)

-- the digits of s from i on end at j
pub record IsRun (s : List ℕ) (i j : ℕ) : Type 0 where
  pub order : i ≤ j
  pub inside : j ≤ length s
  pub digits : HasDigits s i j
  pub stops : j < length s → IsDigit (slice_index s j) → ⊥

-- the number that the digits spell
abbrev pub value : List ℕ → ℕ
value [] = 0
value (c ∷ cs) = (c - 48) * 10 ^ length cs + value cs

-- the number that the two digits at i spell
abbrev pub two_at : List ℕ → ℕ → ℕ
two_at s i = (slice_index s i - 48) * 10 + (slice_index s (i + 1) - 48)

-- a number below 100 as two digits
abbrev pub two_digits : ℕ → List ℕ
two_digits n = (48 + n / 10) ∷ (48 + n % 10) ∷ []
