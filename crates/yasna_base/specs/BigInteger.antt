-- INTEGER of any size (X.690, 8.3).
use Rattle.std.specs.Prelude.{◌≡◌, ℕ, ◌^◌, List, [], ◌∷◌, length, Bool, true, false, if◌then◌else◌, ◌==◌, ◌↔◌, IsTrue}
use Rattle.std.specs.Prelude.{ℤ, pos, ◌-ℤ◌, ◌≤ℤ◌}
use Rattle.std.specs.Int.Digits.{number_from_digits}
use Rattle.yasna_base.specs.declared.mode.BERMode.{BERMode}
use Rattle.yasna_base.specs.declared.tag.Tag.{Tag}
use Rattle.yasna_base.specs.Digits.{IsBytes}
use Rattle.yasna_base.specs.Grammar.{Encoding}
use Rattle.yasna_base.specs.Integer.{twos, IsMinimal, integer_encoding}
use Rattle.yasna_base.specs.Laws.{PrimitiveKeepsLaws}

-- bytes, highest first, and whether the number isn't negative
pub record BigInteger : Type 0 where
  pub bytes : List ℕ
  pub positive : Bool

-- the contents c are the bytes of v, and v has their sign
pub record IsBigInteger (m : BERMode) (v : BigInteger) (c : List ℕ) : Type 0 where
  pub contents : v.bytes ≡ c
  pub in_bytes : IsBytes c
  pub minimal : IsMinimal c
  pub sign : IsTrue v.positive ↔ (pos 0 ≤ℤ twos c)

-- the bytes without leading ones equal to x
abbrev pub trim_leading : ℕ → List ℕ → List ℕ
trim_leading x [] = []
trim_leading x (y ∷ ys) = if y == x then trim_leading x ys else y ∷ ys

-- the bytes read unsigned, less 256 ^ length where the number is negative
abbrev pub signed_number : Bool → List ℕ → ℤ
signed_number true b = pos (number_from_digits 256 b)
signed_number false b = pos (number_from_digits 256 b) -ℤ pos (256 ^ length b)

-- as `signed_number`, but 0 where there are no bytes
abbrev pub signed_or_zero : Bool → List ℕ → ℤ
signed_or_zero positive [] = pos 0
signed_or_zero positive (x ∷ xs) = signed_number positive (x ∷ xs)

-- the number that a sign and bytes with leading zeros represent
unfoldable pub big_integer : List ℕ → Bool → ℤ
big_integer b positive = signed_or_zero positive (trim_leading 0 b)

-- the encoding of that number as an INTEGER
abbrev pub big_integer_encoding : Tag → Encoding BigInteger
big_integer_encoding t m v = integer_encoding t m (big_integer v.bytes v.positive)

-- v is canonical: the fewest bytes in two's complement, and their sign
pub record CanBigInteger (v : BigInteger) : Type 0 where
  pub in_bytes : IsBytes v.bytes
  pub minimal : IsMinimal v.bytes
  pub sign : IsTrue v.positive ↔ (pos 0 ≤ℤ twos v.bytes)

-- INTEGER of any size satisfies the laws under any tag
abbrev pub BigIntegerKeepsLaws : Type 0
BigIntegerKeepsLaws = PrimitiveKeepsLaws IsBigInteger big_integer_encoding CanBigInteger
