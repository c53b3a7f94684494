use Rattle.yasna_base.specs.Sequence.{sequence_tag}
use Rattle.yasna_writer.proofs.Prepends.{element_prepended}
use Rattle.yasna.proofs.tuples.prepend_tuple.Goals as goal

pub returns : goal.returns
returns g c =
    let begun = c.in_ok-after.ensures {u = tt} in
    element_prepended sequence_tag (λ m. g.W.EncodableParts.parts_encoding m c.args.parts.now) c.args.out.now c.begin_contents.new.self c.prepend_parts.new.out
    c.enclose.new.self c.in_ok-after.after c.enclose.result begun.0 begun.1 (c.in_ok-prepend_parts.ensures {u = tt}) c.enclose.ensures
