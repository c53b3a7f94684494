use Rattle.std.proofs.Common.{◌≡◌, length}
use Rattle.yasna_base.specs.BigInteger.{trim_leading}
use Rattle.asn1der_convert.proofs.writing.without_zeros.Given as goal

abbrev pub invariant-loop-first : goal.invariant-loop-first
invariant-loop-first l = trim_leading 0 l.rest ≡ trim_leading 0 l.bytes

abbrev pub decreases-loop-first : goal.decreases-loop-first
decreases-loop-first l = length l.rest
