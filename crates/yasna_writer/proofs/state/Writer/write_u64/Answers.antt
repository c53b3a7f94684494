use Rattle.std.proofs.Common.{rules}
use Rattle.yasna_writer.proofs.state.Writer.write_u64.Goals as goal

pub returns-in-Err : goal.returns-in-Err
returns-in-Err c = search rules
