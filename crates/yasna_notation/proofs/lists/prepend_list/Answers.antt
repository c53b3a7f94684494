use Rattle.std.proofs.Common.{None}
use Rattle.yasna_base.specs.SequenceOf.{elements_encoding}
use Rattle.yasna_writer.proofs.Prepends.{element_prepended}
use Rattle.yasna_notation.proofs.lists.prepend_list.Goals as goal

pub returns : goal.returns
returns g c =
    let begun = c.in_ok-after.ensures {u = tt} in
    element_prepended c.args.tag (λ m. elements_encoding (g.N.Notation.means.encoding_under None) m c.args.items.now) c.args.out.now c.begin_contents.new.self
    c.prepend_items.new.out c.enclose.new.self c.in_ok-after.after c.enclose.result begun.0 begun.1 (c.in_ok-prepend_items.ensures {u = tt})
    c.enclose.ensures
