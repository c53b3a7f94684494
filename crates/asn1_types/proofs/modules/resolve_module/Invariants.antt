use Rattle.asn1_types.specs.Definitions.{Continues}
use Rattle.asn1_types.proofs.modules.resolve_module.Given as goal

abbrev pub invariant-loop-assignment : goal.invariant-loop-assignment
invariant-loop-assignment l = Continues l.fn.r l.r
