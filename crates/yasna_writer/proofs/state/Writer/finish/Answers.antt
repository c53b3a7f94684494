use Rattle.std.proofs.Common.{rules}
use Rattle.yasna_writer.proofs.state.Writer.finish.Goals as goal

pub returns-in-Err : goal.returns-in-Err
returns-in-Err g c = search rules

pub returns-in-Ok : goal.returns-in-Ok
returns-in-Ok g c = search rules

pub returns-in-Err-take_bytes : goal.returns-in-Err-take_bytes
returns-in-Err-take_bytes g c = search rules
