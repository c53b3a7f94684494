use Rattle.std.proofs.Common.{None, sym, subst}
use Rattle.yasna_base.specs.Canonical.{enclosed_encoding}
use Rattle.yasna_base.specs.Order.{octets_cmp}
use Rattle.yasna_base.specs.SequenceOf.{elements_encoding}
use Rattle.yasna_base.specs.SetWriting.{in_encoding_order}
use Rattle.yasna_writer.specs.Prepend.{Prepends}
use Rattle.yasna_writer.proofs.KnownLengths.{few_in_order}
use Rattle.yasna_writer.proofs.Prepends.{element_prepended}
use Rattle.yasna_notation.proofs.set_lists.prepend_set.Goals as goal

pub returns-then-items-le1 : goal.returns-then-items-le1
returns-then-items-le1 g c =
    let m = c.args.out.now.mode in
    let encoding = g.N.Notation.means.encoding_under None in
    subst (λ vs. Prepends (enclosed_encoding (elements_encoding encoding) c.args.tag m vs) c.args.out.now c.prepend_list.new.out c.prepend_list.result)
    (sym (few_in_order (λ v w. octets_cmp (encoding m v) (encoding m w)) c.args.items.now c.if-items-le1.true)) c.prepend_list.ensures

pub returns : goal.returns
returns g c =
    let begun = c.in_ok-after.ensures {u = tt} in
    let encoding = g.N.Notation.means.encoding_under None in
    element_prepended c.args.tag (λ m. elements_encoding encoding m (in_encoding_order encoding m c.args.items.now)) c.args.out.now c.begin_contents.new.self
    c.prepend_ordered.new.out c.enclose.new.self c.in_ok-after.after c.enclose.result begun.0 begun.1 (c.in_ok-prepend_ordered.ensures {u = tt})
    c.enclose.ensures
