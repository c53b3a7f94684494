use Rattle.std.proofs.Common.{◌≡◌, map}
use Rattle.asn1_types.specs.Notations.{alternative_of}
use Rattle.asn1_types.proofs.bodies.alternatives_of.Given as goal

abbrev pub invariant-loop-part : goal.invariant-loop-part
invariant-loop-part l = l.alternatives.items ≡ map alternative_of l.yielded
