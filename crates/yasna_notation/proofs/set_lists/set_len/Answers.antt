use Rattle.std.proofs.Common.{None, sym, ◌∙◌}
use Rattle.yasna_base.specs.Order.{octets_cmp}
use Rattle.yasna_base.specs.SequenceOf.{elements_encoding}
use Rattle.yasna_base.specs.SetWriting.{in_encoding_order}
use Rattle.yasna_writer.proofs.KnownLengths.{in_order_length}
use Rattle.yasna_notation.proofs.set_lists.set_len.Goals as goal

pub returns : goal.returns
returns g c =
    let m = c.args.mode in
    let encoding = g.N.Notation.means.encoding_under None in
    let vs = c.args.items.now in
    c.constructed_len.ensures (elements_encoding encoding m (in_encoding_order encoding m vs))
    (c.in_ok-items_len.ensures {u = tt} ∙ sym (in_order_length (encoding m) (λ v w. octets_cmp (encoding m v) (encoding m w)) vs))
