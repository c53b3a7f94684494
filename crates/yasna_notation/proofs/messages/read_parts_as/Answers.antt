use Rattle.yasna_reader.specs.State.{part_of}
use Rattle.yasna_notation.proofs.Represented.{contents_for, no_contents_for}
use Rattle.yasna_notation.proofs.messages.read_parts_as.Goals as goal

pub returns-in-Ok : goal.returns-in-Ok
returns-in-Ok g c =
    let p = g.P.Parts in
    contents_for g.T.Represents.value_of p.may_allocate p.parts p.any_parts (part_of c.args.seq.now) c.from_value.result c.in-Ok.values c.read_parts.result
    (part_of c.read_parts.new.seq) c.in-Ok.is c.from_value.ensures c.read_parts.ensures

pub returns-in-Err : goal.returns-in-Err
returns-in-Err g c =
    let p = g.P.Parts in
    no_contents_for g.T.Represents.value_of p.may_allocate p.parts p.any_parts (part_of c.args.seq.now) c.in-Err.error c.read_parts.result
    (part_of c.read_parts.new.seq) c.in-Err.is c.read_parts.ensures
