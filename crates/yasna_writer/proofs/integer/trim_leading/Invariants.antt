use Rattle.std.proofs.Common.{◌≡◌, length}
use Rattle.yasna_base.specs.BigInteger.{trim_leading}
use Rattle.yasna_writer.proofs.integer.trim_leading.Given as goal

abbrev pub invariant-loop-first : goal.invariant-loop-first
invariant-loop-first l = trim_leading l.byte l.rest ≡ trim_leading l.byte l.bytes

abbrev pub decreases-loop-first : goal.decreases-loop-first
decreases-loop-first l = length l.rest
