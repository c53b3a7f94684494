use Rattle.std.proofs.Common.{ap, ◌∙◌}
use Rattle.std.proofs.lemmas.Result.{IfOk-weaker}
use Rattle.std.specs.List.{concat, flat_map}
use Rattle.yasna_base.specs.Order.{octets_cmp, in_order}
use Rattle.yasna_writer.specs.declared.ordered_part.OrderedPart.{OrderedPart}
use Rattle.yasna_writer.proofs.Sets.{flat_concat}
use Rattle.yasna_writer.proofs.order_parts.ordered_parts.Goals as goal

pub returns : goal.returns
returns c =
    let bytes = λ (p : OrderedPart). p.bytes.now in
    let cut = c.in_ok-parts.ensures {u = tt} in
    let sorts = c.in_ok-order_by_bytes.ensures {u = tt} in
    IfOk-weaker c.join_parts.result _ _
    (λ v e parts rest h.
    e ∙ ap (flat_map bytes) c.deref.ensures.value ∙ flat_concat bytes c.order_by_bytes.new.parts.items
    ∙ ap concat (sorts ∙ ap (in_order octets_cmp) (cut parts rest h))) c.join_parts.ensures
