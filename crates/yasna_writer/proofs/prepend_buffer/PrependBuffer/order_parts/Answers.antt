use Rattle.std.proofs.Common.{◌≡◌, length, drop, ap, ◌∙◌, subst, arith}
use Rattle.yasna_writer.specs.Prepend.{PrependsAll}
use Rattle.yasna_writer.specs.PartOrder.{ArePartsInOrder}
use Rattle.yasna_writer.proofs.PartOrders.{ordered_prepended, ordered_within}
use Rattle.yasna_writer.proofs.prepend_buffer.PrependBuffer.order_parts.Goals as goal

pub remove_first-requires : goal.remove_first-requires
remove_first-requires c =
    let lens = c.args.lens.now in
    let ordered = c.in_ok-ordered.ordered.items in
    let is = subst (λ b. ArePartsInOrder lens b ordered) c.bytes.ensures (c.in_ok-ordered.ensures {u = tt}) in
    omega (arith, c.len.ensures, ordered_within lens c.args.self.now.bytes ordered c.requires is)

pub returns : goal.returns
returns c =
    let lens = c.args.lens.now in
    let old = c.args.self.now in
    let mid = c.remove_first.new.self in
    let new = c.prepend_many.new.self in
    let ordered = c.in_ok-ordered.ordered.items in
    let count : c.len.result ≡ length ordered = omega (arith, c.len.ensures) in
    ordered_prepended lens ordered old mid new c.prepend_many.result
    (subst (λ b. ArePartsInOrder lens b ordered) c.bytes.ensures (c.in_ok-ordered.ensures {u = tt}))
    (c.remove_first.ensures ∙ ap (λ n. record old { bytes = drop n old.bytes }) count)
    (subst (λ b. PrependsAll b mid new c.prepend_many.result) c.deref.ensures.value c.prepend_many.ensures)
