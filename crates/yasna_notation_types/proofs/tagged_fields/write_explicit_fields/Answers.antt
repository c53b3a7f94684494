use Rattle.std.proofs.Common.{rules, subst}
use Rattle.yasna_base.specs.declared.tag.PCBit.TheVariants.{Constructed}
use Rattle.yasna_base.specs.Canonical.{canonical_element, enclosed_encoding}
use Rattle.yasna_base.specs.Identifier.{tag_or}
use Rattle.yasna_base.specs.Sequence.{sequence_tag}
use Rattle.yasna_writer.specs.View.{Written, Writes}
use Rattle.yasna_notation.proofs.Around.{around_one}
use Rattle.yasna_notation_types.proofs.tagged_fields.write_explicit_fields.Goals as goal

pub returns : goal.returns
returns g c =
    let old : Written = c.args.writer.now in
    let new : Written = c.write_tagged.new.self in
    let encoding = g.P.Parts.encoding in
    let v = g.P.PartsBy.held c.args.fields in
    subst (λ t. Writes (canonical_element old.mode (tag_or old.tag t) Constructed (enclosed_encoding encoding sequence_tag old.mode v)) old new c.write_tagged.result)
    c.tag.ensures
    (around_one _ _ _ (λ k e h. h) (canonical_element old.mode (tag_or old.tag c.tag.result) Constructed) (λ u m. enclosed_encoding encoding (tag_or u sequence_tag) m v)
    old new c.write_tagged.result c.write_tagged.ensures (λ p q x h. search rules))
