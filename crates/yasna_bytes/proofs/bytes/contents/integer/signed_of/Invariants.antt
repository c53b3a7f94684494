use Rattle.std.proofs.Common.{◌≡◌, ◌+◌, ◌-◌, length, take, get_or, nat_lt}
use Rattle.yasna_base.specs.BigInteger.{signed_number}
use Rattle.yasna_bytes.proofs.bytes.contents.integer.signed_of.Given as goal

abbrev pub invariant-loop-place : goal.invariant-loop-place
invariant-loop-place l = l.number ≡ signed_number (nat_lt (get_or l.contents 0 0) 128) (take (length l.contents + l.place - 8) l.contents)
