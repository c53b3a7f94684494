use Rattle.yasna_writer.proofs.Sets.{part_begins, part_fails}
use Rattle.yasna_writer.proofs.set.begin_part.Goals as goal

pub returns-in-Ok : goal.returns-in-Ok
returns-in-Ok c = part_begins c.args.mode c.args.begun _ _ _ _ (c.in-Ok.ensures {u = tt}) c.restart.ensures

pub returns-in-Err : goal.returns-in-Err
returns-in-Err c = part_fails c.args.mode c.args.begun _ _ _ _ c.in-Err.error (c.in-Err.ensures {u = tt}) c.clear.ensures.items c.restart-in-Err.ensures
