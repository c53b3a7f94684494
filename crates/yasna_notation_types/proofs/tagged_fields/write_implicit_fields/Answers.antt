use Rattle.std.proofs.Common.{rules, subst}
use Rattle.yasna_base.specs.Canonical.{enclosed_encoding}
use Rattle.yasna_base.specs.Identifier.{tag_or}
use Rattle.yasna_base.specs.Sequence.{sequence_tag}
use Rattle.yasna_writer.specs.View.{Written, Writes}
use Rattle.yasna_notation.proofs.Around.{under_tag}
use Rattle.yasna_notation_types.proofs.tagged_fields.write_implicit_fields.Goals as goal

pub returns : goal.returns
returns g c =
    let old : Written = c.args.writer.now in
    let new : Written = c.write_tagged_implicit.new.self in
    let encoding = g.P.Parts.encoding in
    let v = g.P.PartsBy.held c.args.fields in
    subst (λ t. Writes (enclosed_encoding encoding (tag_or old.tag t) old.mode v) old new c.write_tagged_implicit.result) c.tag.ensures
    (under_tag _ _ _ (λ k e h. h) c.tag.result (λ u m. enclosed_encoding encoding (tag_or u sequence_tag) m v) old new c.write_tagged_implicit.result
    c.write_tagged_implicit.ensures (λ p q x h. search rules))
