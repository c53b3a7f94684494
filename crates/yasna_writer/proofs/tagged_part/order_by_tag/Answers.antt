use Rattle.std.proofs.Common.{rules, ap, ◌∙◌}
use Rattle.std.proofs.lemmas.Cmp.{nat_list_cmp_total}
use Rattle.std.proofs.lemmas.List.Sorted.{ranks_by, answers_always}
use Rattle.std.proofs.lemmas.Result.{on_ok_weaker}
use Rattle.yasna_base.specs.Set.{part_key, part_cmp}
use Rattle.yasna_base.proofs.Order.{in_order_is, in_order_map}
use Rattle.yasna_writer.specs.declared.tagged_part.TaggedPart.{TaggedPart}
use Rattle.yasna_writer.specs.Parts.{set_part_of, parts_of}
use Rattle.yasna_writer.proofs.tagged_part.order_by_tag.Goals as goal

pub returns : goal.returns
returns c =
    let old = c.args.parts.now.items in
    let new = c.sort_by.new.self.items in
    let ranks = ranks_by nat_list_cmp_total (λ (p : TaggedPart). part_key (set_part_of p)) in
    let returns = answers_always _ _ _ (λ f a r g h. search rules) in
    on_ok_weaker c.sort_by.result
    (λ sorted.
    ap parts_of (in_order_is (λ (p q : TaggedPart). part_cmp (set_part_of p) (set_part_of q)) ranks old new (sorted _ ranks returns)
    (c.sort_by.ensures.stable _ ranks returns)) ∙
    in_order_map set_part_of part_cmp old)
    c.sort_by.ensures.sorted
