use Rattle.std.proofs.Common.{rules}
use Rattle.yasna_writer.proofs.state.Writer.write_generalized_time.Goals as goal

pub returns-in-Ok : goal.returns-in-Ok
returns-in-Ok c = search rules
