use Rattle.yasna_reader.specs.State.{part_of}
use Rattle.yasna_notation_types.proofs.Possibles.{looks_found, looks_none}
use Rattle.yasna_notation_types.proofs.others.next_is.Goals as goal

pub returns-in-Ok-clause-looks : goal.returns-in-Ok-clause-looks
returns-in-Ok-clause-looks g c =
    looks_found g.X.Notation.means.tags (part_of c.args.seq.now) c.next.result.now c.lookahead_tag.result c.lookahead_tag.ensures c.next.ensures.value
    c.in-Ok.tag c.in-Ok.is c.has_tag.result c.has_tag.ensures

pub returns-in-Err-clause-looks : goal.returns-in-Err-clause-looks
returns-in-Err-clause-looks g c =
    looks_none g.X.Notation.means.tags (part_of c.args.seq.now) c.next.result.now c.lookahead_tag.result c.lookahead_tag.ensures c.next.ensures.value
    c.in-Err.field-0 c.in-Err.is
