use Rattle.std.proofs.Common.{rules, ap, ◌∙◌}
use Rattle.std.proofs.lemmas.Cmp.{nat_list_cmp_total}
use Rattle.std.proofs.lemmas.List.Sorted.{ranks_by, answers_always}
use Rattle.std.proofs.lemmas.Result.{on_ok_weaker}
use Rattle.yasna_base.specs.Order.{octets_cmp}
use Rattle.yasna_base.proofs.Order.{in_order_is, in_order_map}
use Rattle.yasna_writer.specs.declared.ordered_part.OrderedPart.{OrderedPart}
use Rattle.yasna_writer.specs.Parts.{ordered_bytes}
use Rattle.yasna_writer.proofs.order_parts.order_by_bytes.Goals as goal

pub returns : goal.returns
returns c =
    let bytes = λ (p : OrderedPart). p.bytes.now in
    let old = c.args.parts.now.items in
    let new = c.sort_by.new.self.items in
    let ranks = ranks_by nat_list_cmp_total bytes in
    let returns = answers_always _ _ _ (λ f a r g h. search rules) in
    on_ok_weaker c.sort_by.result
    (λ sorted.
    ap ordered_bytes (in_order_is (λ (p q : OrderedPart). octets_cmp (bytes p) (bytes q)) ranks old new (sorted _ ranks returns)
    (c.sort_by.ensures.stable _ ranks returns)) ∙
    in_order_map bytes octets_cmp old)
    c.sort_by.ensures.sorted
