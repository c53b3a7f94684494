use Rattle.std.proofs.Common.{None, rules}
use Rattle.yasna_base.specs.declared.tag.PCBit.TheVariants.{Constructed}
use Rattle.yasna_base.specs.Canonical.{canonical_element}
use Rattle.yasna_base.specs.Identifier.{tag_or}
use Rattle.yasna_base.specs.Sequence.{sequence_tag}
use Rattle.yasna_base.specs.SequenceOf.{elements_encoding}
use Rattle.yasna_writer.specs.View.{Written}
use Rattle.yasna_notation.proofs.Around.{around_parts}
use Rattle.yasna_notation.proofs.lists.write_list.Goals as goal

pub returns : goal.returns
returns g c =
    let old : Written = c.args.writer.now in
    around_parts _ _ _ (λ k e h. h) (canonical_element old.mode (tag_or old.tag sequence_tag) Constructed)
    (λ m. elements_encoding (g.N.Notation.means.encoding_under None) m c.args.items.now) old c.write_sequence_of.new.self c.write_sequence_of.result
    c.write_sequence_of.ensures (λ p q x h. search rules)
