use Rattle.std.proofs.Common.{◌*◌, ◌+◌}
use Rattle.asn1der_typed.specs.Appending.{Extends}
use Rattle.asn1der_typed.proofs.conversion.+typed.Given as goal

abbrev pub decreases-convert_contents : goal.decreases-convert_contents
decreases-convert_contents l = 3 * l.levels + 2

abbrev pub decreases-convert_element : goal.decreases-convert_element
decreases-convert_element l = 3 * l.levels + 1

abbrev pub decreases-convert_constructed : goal.decreases-convert_constructed
decreases-convert_constructed l = 3 * l.levels

abbrev pub invariant-convert_contents-loop : goal.invariant-convert_contents-loop
invariant-convert_contents-loop l = Extends l.initial.state.out.items l.state.out.items
