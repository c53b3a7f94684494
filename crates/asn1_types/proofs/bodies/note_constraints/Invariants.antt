use Rattle.asn1_types.specs.Context.{IsUnchanged}
use Rattle.asn1_types.proofs.bodies.note_constraints.Given as goal

abbrev pub invariant-loop-rest : goal.invariant-loop-rest
invariant-loop-rest l = IsUnchanged l.fn.r l.r
