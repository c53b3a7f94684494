use Rattle.std.proofs.Common.{rules}
use Rattle.yasna_writer.proofs.state.Writer.write_bool.Goals as goal

pub returns : goal.returns
returns c = search rules
