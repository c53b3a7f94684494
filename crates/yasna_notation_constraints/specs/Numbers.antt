-- Numbers that a constraint allows (X.680, 51.4).
use Rattle.std.specs.Prelude.{◌≡◌, ℕ, ℤ, pos, negsuc, Bool, ◌&&◌, int_le}
use Rattle.std.specs.Int.{int_max, int_min}
use Rattle.std.proofs.Common.{ap}
use Rattle.yasna_base.specs.BigInteger.{BigInteger}
use Rattle.yasna_base.specs.Integer.{twos}

-- the integers from low to high
abbrev pub between : ℤ → ℤ → ℤ → Bool
between low high z = int_le low z && int_le z high

-- the nearest integer from -2^64 to 2^64
abbrev pub saturated : ℤ → ℤ
saturated z = int_max (negsuc 18446744073709551615) (int_min (pos 18446744073709551616) z)

-- equal integers of any size are one number
pub same_number : (v w : BigInteger) → v ≡ w → twos v.bytes ≡ twos w.bytes
same_number v w e = ap (λ (b : BigInteger). twos b.bytes) e

-- and so are equal numbers from 0 on
pub same_natural : (v w : ℕ) → v ≡ w → pos v ≡ pos w
same_natural v w e = ap pos e
