use Rattle.std.proofs.Common.{rules}
use Rattle.yasna_base.proofs.ExplicitTags.{context_not_end}
use Rattle.yasna_notation.proofs.Enclosing.{explicit_read}
use Rattle.ldap.specs.Filters.{the_filter, boxed_means}
use Rattle.ldap.proofs.FilterReading.{boxed_lawful}
use Rattle.ldap.proofs.filter_reading.read_negated.Goals as goal

pub returns : goal.returns
returns g c =
    let n = boxed_means the_filter in
    explicit_read {tags_known = n.tags_known} {ts = n.tags} {retagged = n.retagged} {may_allocate = n.may_allocate} {B = n.under} {S = n.any_under}
    boxed_lawful.own.coding (context_not_end 2) c.read_tagged.ensures c.context.ensures (λ p q x h. search rules)
