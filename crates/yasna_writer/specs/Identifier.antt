-- Numbers in base 128, as digits that more digits follow or not (X.690, 8.1.2.4).
use Rattle.std.specs.Prelude.{ℕ, ◌+◌, ◌%◌, List, map, Bool, true, false}
use Rattle.yasna_base.specs.Digits.{digits, base128}

-- the digits of a number with 128 added to all, or to all but the last
unfoldable pub base128_digits : Bool → ℕ → List ℕ
base128_digits true k = map (λ d. 128 + d) (digits 128 k)
base128_digits false k = base128 k

-- the last of them
abbrev pub base128_byte : Bool → ℕ → ℕ
base128_byte true k = 128 + k % 128
base128_byte false k = k % 128
