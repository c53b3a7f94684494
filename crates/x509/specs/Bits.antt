-- The bits of a BIT STRING by their numbers (X.680, 22; X.690, 8.6.2).
use Rattle.std.proofs.Common.{◌&&◌, ℕ, Bool}
use Rattle.std.specs.Prelude.{nat_lt, nat_eq}
use Rattle.yasna_base.specs.Bits.{BitString}
use Rattle.yasna_notation_types.specs.LeastBits.{bit_at}

-- the string has a bit of this number, and it is one
abbrev pub has_bit : BitString → ℕ → Bool
has_bit v i = nat_lt i v.count && nat_eq (bit_at v i) 1
