use Rattle.std.proofs.Common.{refl}
use Rattle.asn1_types.specs.Bounds.{once_more, unconstrained}
use Rattle.asn1_types.proofs.Adding.{unchanged_then}
use Rattle.asn1_types.proofs.plain.constrained.Goals as goal

pub loop-constraint-init : goal.loop-constraint-init
loop-constraint-init c = record { unchanged = record { context = refl; assignment = refl }; constrained = unconstrained }

pub loop-constraint-preserved : goal.loop-constraint-preserved
loop-constraint-preserved c = record {
  unchanged = unchanged_then c.loop-constraint.invariant.unchanged c.note_constraint.ensures;
  constrained = once_more c.loop-constraint.invariant.constrained c.constrain-accepts_more.ensures;
}
