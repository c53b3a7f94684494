use Rattle.std.proofs.Common.{◌≡◌, ◌≤◌, ◌*◌, ◌+◌, length, map, take}
use Rattle.asn1_syntax.specs.Printing.{prepended}
use Rattle.asn1_syntax.specs.Tree.{component_texts, components_then}
use Rattle.asn1_syntax.proofs.Depths.{component_depths, depth_of, largest, part_depths, part_level}
use Rattle.asn1_syntax.proofs.printed_types.+printed_types.Given as goal

abbrev pub decreases-type_notation : goal.decreases-type_notation
decreases-type_notation l = 4 * depth_of l.notation.now

abbrev pub decreases-part : goal.decreases-part
decreases-part l = 4 * part_level (part_depths l.part.now) + 1

abbrev pub decreases-component : goal.decreases-component
decreases-component l = 4 * part_level (part_depths l.component.now.part) + 2

abbrev pub decreases-components : goal.decreases-components
decreases-components l = 4 * largest (map component_depths l.components.now) + 3

abbrev pub invariant-components-loop-left : goal.invariant-components-loop-left
invariant-components-loop-left l = record {
  value : components_then (map component_texts l.components) (prepended l.fn.out)
      ≡ components_then (map component_texts (take l.left l.components)) (prepended l.out);
  fits : l.left ≤ length l.components;
}

abbrev pub decreases-components-loop-left : goal.decreases-components-loop-left
decreases-components-loop-left l = l.left
