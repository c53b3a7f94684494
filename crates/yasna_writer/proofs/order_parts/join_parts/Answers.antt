use Rattle.std.proofs.Common.{◌≡◌, ◌++◌, [], ap, ◌∙◌, rules}
use Rattle.yasna_writer.specs.declared.ordered_part.OrderedPart.{OrderedPart}
use Rattle.yasna_writer.proofs.Appends.{append_item}
use Rattle.yasna_writer.proofs.order_parts.join_parts.Goals as goal

pub loop-part-preserved : goal.loop-part-preserved
loop-part-preserved c =
    let bytes = λ (p : OrderedPart). p.bytes.now in
    let joined = c.loop-part.joined.items in
    let more : c.extend_from_slice.new.self.items ≡ joined ++ c.as_slice.result.now = search rules in
    more ∙ ap (λ b. joined ++ b) (c.as_slice.ensures ∙ ap bytes c.part-item.is)
    ∙ append_item bytes c.args.parts.now c.loop-part.part-index c.part-item.result [] joined c.loop-part-test.true c.loop-part.invariant
