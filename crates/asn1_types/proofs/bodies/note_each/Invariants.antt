use Rattle.asn1_types.specs.Context.{IsUnchanged}
use Rattle.asn1_types.proofs.bodies.note_each.Given as goal

abbrev pub invariant-loop-constraint : goal.invariant-loop-constraint
invariant-loop-constraint l = IsUnchanged l.fn.r l.r
