use Rattle.std.proofs.Common.{◌≡◌, ◌*◌, ◌+◌, map}
use Rattle.asn1_syntax.specs.Tree.{component_texts, components_then, left}
use Rattle.asn1_syntax.proofs.types.+types.Given as goal

abbrev pub decreases-type_notation : goal.decreases-type_notation
decreases-type_notation l = 7 * l.depth

abbrev pub decreases-unconstrained : goal.decreases-unconstrained
decreases-unconstrained l = 7 * l.depth + 6

abbrev pub decreases-constructed_or_plain : goal.decreases-constructed_or_plain
decreases-constructed_or_plain l = 7 * l.depth + 5

abbrev pub decreases-components : goal.decreases-components
decreases-components l = 7 * l.depth + 4

abbrev pub decreases-component : goal.decreases-component
decreases-component l = 7 * l.depth + 3

abbrev pub decreases-part : goal.decreases-part
decreases-part l = 7 * l.depth + 2

abbrev pub decreases-named_part : goal.decreases-named_part
decreases-named_part l = 7 * l.depth + 1

abbrev pub invariant-components-loop : goal.invariant-components-loop
invariant-components-loop l = left l.fn.cursor ≡ components_then (map component_texts l.components.items) (left l.cursor)
