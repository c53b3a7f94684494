use Rattle.std.proofs.Common.{rules}
use Rattle.yasna_reader.proofs.state.ReaderState.leave.Goals as goal

pub returns-in-Err : goal.returns-in-Err
returns-in-Err g c = search rules
