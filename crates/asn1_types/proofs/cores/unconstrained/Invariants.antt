use Rattle.asn1_types.specs.Trees.{IsWithin}
use Rattle.asn1_types.proofs.cores.unconstrained.Given as goal

abbrev pub invariant-loop-at : goal.invariant-loop-at
invariant-loop-at l = IsWithin l.notation l.at
