use Rattle.asn1_types.specs.Bounds.{IsConstrained}
use Rattle.asn1_types.specs.Context.{IsUnchanged}
use Rattle.asn1_types.proofs.plain.constrained.Given as goal

abbrev pub invariant-loop-constraint : goal.invariant-loop-constraint
invariant-loop-constraint l = record { unchanged : IsUnchanged l.fn.r l.r; constrained : IsConstrained l.fn.notation l.constrained }
