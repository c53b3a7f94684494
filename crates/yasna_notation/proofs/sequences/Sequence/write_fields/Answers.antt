use Rattle.std.proofs.Common.{rules, sym, subst}
use Rattle.yasna_base.specs.declared.tag.PCBit.TheVariants.{Constructed}
use Rattle.yasna_base.specs.Canonical.{canonical_element}
use Rattle.yasna_base.specs.Identifier.{tag_or}
use Rattle.yasna_base.specs.Sequence.{sequence_tag}
use Rattle.yasna_writer.specs.View.{Written, WroteParts}
use Rattle.yasna_notation.proofs.Around.{around_parts}
use Rattle.yasna_notation.proofs.sequences.Sequence.write_fields.Goals as goal

pub returns : goal.returns
returns g c =
    let old : Written = c.args.writer.now in
    let v = g.P.PartsBy.held c.args.fields in
    around_parts _ _ _ (λ k e h. h) (canonical_element old.mode (tag_or old.tag sequence_tag) Constructed)
    (λ m. g.P.Parts.encoding m v) old c.write_sequence.new.self c.write_sequence.result c.write_sequence.ensures
    (λ p q x h. subst (λ b. WroteParts b p.now q.now x) (sym (c.requires.alike.encodings p.now.mode v)) (search rules))
