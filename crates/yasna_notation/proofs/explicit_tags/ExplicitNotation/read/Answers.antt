use Rattle.std.proofs.Common.{rules}
use Rattle.yasna_notation.proofs.Enclosing.{explicit_read}
use Rattle.yasna_notation.proofs.explicit_tags.ExplicitNotation.read.Goals as goal

pub returns : goal.returns
returns g c =
    let n = g.N.Notation.means in
    explicit_read {tags_known = n.tags_known} {ts = n.tags} {retagged = n.retagged} {may_allocate = n.may_allocate} {B = n.under} {S = n.any_under}
    (g.met.N.Notation.lawful c.requires).own.coding g.met.T.TagName.not_end c.read_tagged.ensures c.tag.ensures (λ p q x h. search rules)
