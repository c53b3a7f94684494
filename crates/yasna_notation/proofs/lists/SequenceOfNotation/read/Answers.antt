use Rattle.std.proofs.Common.{rules}
use Rattle.yasna_notation.proofs.Enclosing.{list_read}
use Rattle.yasna_notation.proofs.lists.SequenceOfNotation.read.Goals as goal

pub returns : goal.returns
returns g c =
    let n = g.N.Notation.means in
    list_read {tags_known = n.tags_known} {ts = n.tags} {retagged = n.retagged} {may_allocate = n.may_allocate} {B = n.under} {S = n.any_under}
    (g.met.N.Notation.lawful c.requires).own.coding c.collect_sequence_of.ensures (λ f f' p q x h. search rules)
