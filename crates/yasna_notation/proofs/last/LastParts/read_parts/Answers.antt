use Rattle.std.proofs.Common.{rules}
use Rattle.yasna_reader.specs.State.{part_of}
use Rattle.yasna_notation.specs.Notation.{ReadsAs}
use Rattle.yasna_notation.proofs.Contents.{last_read, optional_called}
use Rattle.yasna_notation.proofs.last.LastParts.read_parts.Goals as goal

pub returns : goal.returns
returns g c =
    let n = g.A.Notation.means in
    let s = part_of c.args.seq.now in
    let m = part_of c.read_optional.new.self in
    last_read n.tags_known n.tags n.retagged n.may_allocate n.under n.any_under
    (g.met.A.Notation.lawful c.requires.unambiguous).own.coding s c.requires.fresh c.read_optional.result m
    (optional_called _ _ (ReadsAs n.tags_known n.tags n.retagged n.may_allocate n.under n.any_under) s c.read_optional.result m
    c.read_optional.ensures (λ p q x h. search rules))
