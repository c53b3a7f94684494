-- Numbers of many bytes, kept within the limits.
use Rattle.std.proofs.Common.{◌≡◌, ℕ, ℤ, ◌<◌, List, [], ◌∷◌, get_or, pos, negsuc, ◌+ℤ◌, ◌*ℤ◌, ◌≤ℤ◌, FitsSigned, nat_lt, Bool, true, false, sym, arith}
use Rattle.std.specs.Prelude.{int_le}
use Rattle.std.specs.Int.{w64}
use Rattle.std.proofs.lemmas.Int.{ints, clamps}
use Rattle.yasna_base.specs.BigInteger.{signed_number}
use Rattle.yasna_base.specs.Integer.{twos}
use Rattle.yasna_bytes.proofs.Integer.{positive_is, twos_signed}
use Rattle.yasna_notation_constraints.specs.Numbers.{saturated}

-- what is past a limit stays past it with a byte more
pub saturated_more : (z : ℤ) (d : ℕ) → d < 256 → saturated (saturated z *ℤ pos 256 +ℤ pos d) ≡ saturated (z *ℤ pos 256 +ℤ pos d)
saturated_more z d h = omega (arith, ints, clamps)

-- the limits
pub not_below : (z : ℤ) → negsuc 18446744073709551615 ≤ℤ saturated z
not_below z = omega (arith, ints, clamps)

pub not_above : (z : ℤ) → saturated z ≤ℤ pos 18446744073709551616
not_above z = omega (arith, ints, clamps)

-- no bytes represent a number within the limits
pub signed_start : (p : Bool) → signed_number p [] ≡ saturated (signed_number p [])
signed_start true = omega (arith, ints, clamps)
signed_start false = omega (arith, ints, clamps)

-- all bytes represent the number in two's complement
pub signed_all : (c : List ℕ) → signed_number (nat_lt (get_or c 0 0) 128) c ≡ twos c
signed_all [] = sym (positive_is [] (omega arith))
signed_all (x ∷ xs) = twos_signed (x ∷ xs) (omega arith)

-- within 64 bits, a number is compared as the nearest is
pub low_is : (low z : ℤ) → FitsSigned w64 low → int_le low (saturated z) ≡ int_le low z
low_is low z fits = grind (arith, ints, clamps)

pub high_is : (high z : ℤ) → FitsSigned w64 high → int_le (saturated z) high ≡ int_le z high
high_is high z fits = grind (arith, ints, clamps)
