use Rattle.std.proofs.Common.{rules}
use Rattle.yasna_notation.proofs.SetParts.{set_of_read}
use Rattle.yasna_notation.proofs.set_lists.SetOfNotation.read.Goals as goal

pub returns : goal.returns
returns g c =
    let n = g.N.Notation.means in
    set_of_read {tags_known = n.tags_known} {ts = n.tags} {retagged = n.retagged} {may_allocate = n.may_allocate} {B = n.under} {S = n.any_under}
    (g.met.N.Notation.lawful c.requires).own.coding c.collect_set_of.ensures (λ f f' p q x h. search rules)
