use Rattle.std.proofs.Common.{ℕ, length}
use Rattle.asn1_syntax.specs.Parsing.{IsPlaceOf}
use Rattle.asn1_syntax.proofs.located.place_from.Given as goal

abbrev pub invariant-loop-rest : goal.invariant-loop-rest
invariant-loop-rest l = (offset : ℕ) → IsPlaceOf l.rest l.end offset → IsPlaceOf l.tokens l.end offset

abbrev pub decreases-loop-rest : goal.decreases-loop-rest
decreases-loop-rest l = length l.rest
