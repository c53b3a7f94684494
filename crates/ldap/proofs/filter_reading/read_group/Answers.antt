use Rattle.std.proofs.Common.{rules, refl}
use Rattle.yasna_base.specs.Set.{set_tag}
use Rattle.yasna_base.proofs.ExplicitTags.{context_not_end}
use Rattle.yasna_notation.proofs.Enclosing.{implicit_read}
use Rattle.ldap.specs.Filters.{the_filter, list_means}
use Rattle.ldap.proofs.filter_reading.read_group.Goals as goal

pub returns : goal.returns
returns g c =
    let n = list_means set_tag the_filter in
    implicit_read {tags_known = n.tags_known} {ts = n.tags} {may_allocate = n.may_allocate} {B = n.under} {S = n.any_under} _ _
    refl (context_not_end c.args.number) (search rules) c.read_tagged_implicit.ensures c.context.ensures
    (λ p q x h. search rules)
