use Rattle.std.proofs.Common.{None, rules, subst}
use Rattle.yasna_base.specs.declared.tag.PCBit.TheVariants.{Constructed}
use Rattle.yasna_base.specs.Canonical.{canonical_element}
use Rattle.yasna_base.specs.Identifier.{tag_or}
use Rattle.yasna_writer.specs.View.{Written, Writes}
use Rattle.yasna_notation.proofs.Around.{around_one}
use Rattle.yasna_notation.proofs.explicit_tags.ExplicitNotation.write.Goals as goal

pub returns : goal.returns
returns g c =
    let old : Written = c.args.writer.now in
    let new : Written = c.write_tagged.new.self in
    let encoding = g.N.Notation.means.encoding_under in
    let v = c.args.value.now in
    subst (λ t. Writes (canonical_element old.mode (tag_or old.tag t) Constructed (encoding None old.mode v)) old new c.write_tagged.result)
    c.tag.ensures
    (around_one _ _ _ (λ k e h. h) (canonical_element old.mode (tag_or old.tag c.tag.result) Constructed) (λ u m. encoding u m v)
    old new c.write_tagged.result c.write_tagged.ensures (λ p q x h. search rules))
