use Rattle.std.proofs.Common.{None, map, sym, subst}
use Rattle.yasna_writer.specs.PartOrder.{OrdersParts, AreLengths}
use Rattle.yasna_writer.proofs.PartOrders.{encodings_begin, values_ordered}
use Rattle.yasna_notation.proofs.set_lists.prepend_ordered.Goals as goal

pub order_parts-requires : goal.order_parts-requires
order_parts-requires g c =
    let encoding = g.N.Notation.means.encoding_under None in
    let old = c.args.out.now in
    let mid = c.prepend_elements.new.out in
    let made = c.in_ok-lens.ensures {u = tt} in
    subst (λ ns. AreLengths ns mid.bytes) (sym c.deref.ensures.value)
    (map (encoding old.mode) c.args.items.now, old.bytes, encodings_begin encoding c.args.items.now old mid c.in_ok-lens.lens.items made.0 made.1)

pub returns : goal.returns
returns g c =
    let made = c.in_ok-lens.ensures {u = tt} in
    values_ordered (g.N.Notation.means.encoding_under None) c.args.items.now c.args.out.now c.prepend_elements.new.out c.order_parts.new.self c.in_ok-lens.lens.items
    c.order_parts.result made.0 made.1
    (subst (λ ns. OrdersParts ns c.prepend_elements.new.out c.order_parts.new.self c.order_parts.result) c.deref.ensures.value c.order_parts.ensures)
