use Rattle.std.proofs.Common.{Some, rules, subst}
use Rattle.yasna_base.specs.Identifier.{tag_or}
use Rattle.yasna_writer.specs.View.{Written, Writes}
use Rattle.yasna_notation.proofs.Around.{under_tag}
use Rattle.yasna_notation.proofs.implicit_tags.ImplicitNotation.write.Goals as goal

pub returns : goal.returns
returns g c =
    let old : Written = c.args.writer.now in
    let new : Written = c.write_tagged_implicit.new.self in
    let encoding = g.N.Notation.means.encoding_under in
    let v = c.args.value.now in
    subst (λ t. Writes (encoding (Some (tag_or old.tag t)) old.mode v) old new c.write_tagged_implicit.result) c.tag.ensures
    (under_tag _ _ _ (λ k e h. h) c.tag.result (λ u m. encoding u m v) old new c.write_tagged_implicit.result c.write_tagged_implicit.ensures
    (λ p q x h. search rules))
