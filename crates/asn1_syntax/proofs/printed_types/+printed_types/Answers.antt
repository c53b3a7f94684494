use Rattle.std.proofs.Common.{◌<◌, ◌-◌, length, map, take, sym, ◌∙◌, ap, arith}
use Rattle.asn1_syntax.specs.Printing.{prepended}
use Rattle.asn1_syntax.specs.Tree.{component_texts, components_then}
use Rattle.asn1_syntax.proofs.Depths.{component_depths, constrained_depth, constructed_depth, depth_of, largest, list_depth, part_depths, part_level, read_within, selected_depth, tagged_depth}
use Rattle.asn1_syntax.proofs.Texts.{last_read_of_first, one_more_component}
use Rattle.asn1_syntax.proofs.printed_types.+printed_types.Goals as goal

pub components-loop-left-preserved : goal.components-loop-left-preserved
components-loop-left-preserved t c =
    let all = c.args.components.now in
    let left = c.loop-left.left in
    let one = c.index-components-left.result in
    let before = prepended c.loop-left.out in
    let shorter = last_read_of_first all left one (omega (arith, c.loop-left-test.true)) c.loop-left.invariant.fits c.index-components-left.is in
    record {
      value = c.loop-left.invariant.value
          ∙ ap (λ first. components_then (map component_texts first) before) shorter
          ∙ one_more_component (take (left - 1) all) one before
          ∙ ap (components_then (map component_texts (take (left - 1) all))) (sym (c.in_ok-component.ensures {u = tt}));
      fits = omega (arith, c.loop-left.invariant.fits);
    }

pub component-part-requires : goal.component-part-requires
component-part-requires t c = (omega (arith, c.decreases), tt)

pub components-component-requires : goal.components-component-requires
components-component-requires t c =
    let cs = c.args.components.now in
    let one = c.index-components-left.result in
    let k = c.loop-left.left - 1 in
    let inside : k < length cs = omega (arith, c.loop-left.invariant.fits, c.loop-left-test.true) in
    let within = read_within cs k one inside in
    let same = ap (λ d. part_level (part_depths d.part)) c.index-components-left.is in
    (omega (arith, c.decreases, within, same), tt)

pub type_notation-type_notation-requires : goal.type_notation-type_notation-requires
type_notation-type_notation-requires t c =
    let deeper = tagged_depth c.args.notation.now c.in-Tagged.head c.in-Tagged.inner c.in-Tagged.is in
    (omega (arith, deeper, c.decreases, ap depth_of c.deref.ensures), tt)

pub type_notation-type_notation-requires-in-Selected : goal.type_notation-type_notation-requires-in-Selected
type_notation-type_notation-requires-in-Selected t c =
    let deeper = selected_depth c.args.notation.now c.in-Selected.name c.in-Selected.inner c.in-Selected.is in
    (omega (arith, deeper, c.decreases, ap depth_of c.deref-in-Selected.ensures), tt)

pub type_notation-type_notation-requires-in-ListOf : goal.type_notation-type_notation-requires-in-ListOf
type_notation-type_notation-requires-in-ListOf t c =
    let deeper = list_depth c.args.notation.now c.in-ListOf.head c.in-ListOf.inner c.in-ListOf.is in
    (omega (arith, deeper, c.decreases, ap depth_of c.deref-in-ListOf.ensures), tt)

pub type_notation-type_notation-requires-in-Constrained : goal.type_notation-type_notation-requires-in-Constrained
type_notation-type_notation-requires-in-Constrained t c =
    let deeper = constrained_depth c.args.notation.now c.in-Constrained.inner c.in-Constrained.after c.in-Constrained.is in
    (omega (arith, deeper, c.decreases, ap depth_of c.deref-in-Constrained.ensures), tt)

pub type_notation-components-requires : goal.type_notation-components-requires
type_notation-components-requires t c =
    let deeper = constructed_depth c.args.notation.now c.in-Constructed.word c.in-Constructed.parts c.in-Constructed.is in
    (omega (arith, deeper, c.decreases, ap (λ cs. largest (map component_depths cs)) c.as_slice.ensures.value), tt)

pub part-type_notation-requires : goal.part-type_notation-requires
part-type_notation-requires t c = (omega (arith, c.decreases, ap (λ p. part_level (part_depths p)) c.in-Named.is), tt)

pub part-type_notation-requires-in-ComponentsOf : goal.part-type_notation-requires-in-ComponentsOf
part-type_notation-requires-in-ComponentsOf t c = (omega (arith, c.decreases, ap (λ p. part_level (part_depths p)) c.in-ComponentsOf.is), tt)
