use Rattle.std.proofs.Common.{length}
use Rattle.yasna_base.proofs.Base128.{Scans}
use Rattle.yasna_base.proofs.bytes.base128.read_base128.Given as goal

abbrev pub invariant-loop-byte : goal.invariant-loop-byte
invariant-loop-byte l = Scans l.s l.number l.rest

abbrev pub decreases-loop-byte : goal.decreases-loop-byte
decreases-loop-byte l = length l.rest
