use Rattle.std.proofs.Common.{◌≡◌, take, get_or, nat_lt}
use Rattle.yasna_base.specs.BigInteger.{signed_number}
use Rattle.yasna_notation_constraints.specs.Numbers.{saturated}
use Rattle.yasna_notation_constraints.proofs.big_numbers.nearest.Given as goal

abbrev pub invariant-loop-place : goal.invariant-loop-place
invariant-loop-place l = l.number ≡ saturated (signed_number (nat_lt (get_or l.bytes 0 0) 128) (take l.place l.bytes))
