use Rattle.std.proofs.Common.{rules}
use Rattle.yasna_base.specs.declared.tag.PCBit.TheVariants.{Constructed}
use Rattle.yasna_base.specs.Canonical.{canonical_element}
use Rattle.yasna_base.specs.Identifier.{tag_or}
use Rattle.yasna_base.specs.Sequence.{sequence_tag}
use Rattle.yasna_writer.specs.View.{Written}
use Rattle.yasna_notation.proofs.Around.{around_parts}
use Rattle.yasna_notation.proofs.sequences.SequenceNotation.write.Goals as goal

pub returns : goal.returns
returns g c =
    let old : Written = c.args.writer.now in
    around_parts _ _ _ (λ k e h. h) (canonical_element old.mode (tag_or old.tag sequence_tag) Constructed)
    (λ m. g.P.Parts.encoding m c.args.value.now) old c.write_sequence.new.self c.write_sequence.result c.write_sequence.ensures
    (λ p q x h. search rules)
