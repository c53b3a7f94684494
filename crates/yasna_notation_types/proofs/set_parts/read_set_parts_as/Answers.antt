use Rattle.yasna_notation_types.proofs.RepresentedSets.{reads_for, fails_for}
use Rattle.yasna_notation_types.proofs.set_parts.read_set_parts_as.Goals as goal

pub returns-in-Ok : goal.returns-in-Ok
returns-in-Ok g c =
    reads_for g.T.Represents.value_of g.P.SetParts.picks c.args.set.now c.from_value.result c.in-Ok.values c.read_set_parts.result
    c.read_set_parts.new.set c.in-Ok.is c.from_value.ensures c.read_set_parts.ensures

pub returns-in-Err : goal.returns-in-Err
returns-in-Err g c =
    fails_for g.T.Represents.value_of g.P.SetParts.picks c.args.set.now c.in-Err.error c.read_set_parts.result c.read_set_parts.new.set c.in-Err.is
    c.read_set_parts.ensures
