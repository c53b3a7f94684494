use Rattle.std.proofs.Common.{rules}
use Rattle.yasna_reader.specs.State.{part_of}
use Rattle.yasna_notation_types.proofs.Tails.{rest_read}
use Rattle.yasna_notation_types.proofs.rest.RestParts.read_parts.Goals as goal

pub returns : goal.returns
returns g c =
    let n = g.N.Notation.means in
    rest_read {tags_known = n.tags_known} {ts = n.tags} {retagged = n.retagged} {may_allocate = n.may_allocate} {B = n.under} {S = n.any_under} _ _ (part_of c.args.seq.now)
    c.collect_rest.result (part_of c.collect_rest.new.self) (g.met.N.Notation.lawful c.requires.unambiguous).own.coding c.requires.fresh c.collect_rest.ensures (λ f f' p q x h. search rules)
