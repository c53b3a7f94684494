use Rattle.std.proofs.Common.{None, rules, subst}
use Rattle.yasna_base.specs.AnyOrder.{sorted_set_of_encoding}
use Rattle.yasna_base.specs.Identifier.{tag_or}
use Rattle.yasna_base.specs.Set.{set_tag}
use Rattle.yasna_writer.specs.View.{Written, Writes}
use Rattle.yasna_notation.proofs.Around.{under_tag}
use Rattle.ldap.specs.Filters.{the_filter}
use Rattle.ldap.proofs.filter_writing.write_group.Goals as goal

pub returns : goal.returns
returns g c =
    let old : Written = c.args.writer.now in
    let new : Written = c.write_tagged_implicit.new.self in
    let encoding = the_filter.encoding_under None in
    let vs = c.args.items.now in
    subst (λ t. Writes (sorted_set_of_encoding encoding (tag_or old.tag t) old.mode vs) old new c.write_tagged_implicit.result) c.context.ensures
    (under_tag _ _ _ (λ k e h. h) c.context.result (λ u m. sorted_set_of_encoding encoding (tag_or u set_tag) m vs) old new c.write_tagged_implicit.result
    c.write_tagged_implicit.ensures (λ p q x h. search rules))
