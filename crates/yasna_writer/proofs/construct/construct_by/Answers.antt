use Rattle.std.proofs.Common.{refl}
use Rattle.yasna_writer.proofs.construct.construct_by.Goals as goal

pub returns : goal.returns
returns g c =
    (c.f-own.result, c.f-own.new.arg2, record { shown = _; shows = c.new-writer.ensures; left = _; met = c.f-own.ensures; leaves = refl }, c.finish.ensures)
