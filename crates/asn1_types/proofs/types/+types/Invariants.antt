use Rattle.std.proofs.Common.{◌*◌, ◌+◌, take}
use Rattle.asn1_types.specs.Context.{context_of}
use Rattle.asn1_types.specs.Definitions.{Continues}
use Rattle.asn1_types.specs.Notations.{AreParts}
use Rattle.asn1_types.proofs.types.+types.Given as goal

abbrev pub decreases-notation : goal.decreases-notation
decreases-notation l = 8 * l.depth

abbrev pub decreases-part : goal.decreases-part
decreases-part l = 8 * l.depth + 1

abbrev pub decreases-parts : goal.decreases-parts
decreases-parts l = 8 * l.depth + 2

abbrev pub decreases-body : goal.decreases-body
decreases-body l = 8 * l.depth + 3

abbrev pub decreases-define : goal.decreases-define
decreases-define l = 8 * l.depth + 4

abbrev pub decreases-definition : goal.decreases-definition
decreases-definition l = 8 * l.depth + 4

abbrev pub decreases-assign : goal.decreases-assign
decreases-assign l = 8 * l.depth + 5

abbrev pub decreases-aliased : goal.decreases-aliased
decreases-aliased l = 8 * l.depth + 5

abbrev pub decreases-reference : goal.decreases-reference
decreases-reference l = 8 * l.depth + 6

abbrev pub decreases-plain_notation : goal.decreases-plain_notation
decreases-plain_notation l = 8 * l.depth + 7

abbrev pub invariant-parts-loop-index : goal.invariant-parts-loop-index
invariant-parts-loop-index l = record {
  continues : Continues l.fn.r l.r;
  are : AreParts (context_of l.r) l.numbers.items (take l.index l.sources) l.parts.items;
}
