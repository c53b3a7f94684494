use Rattle.std.proofs.Common.{rules}
use Rattle.yasna_writer.proofs.state.Writer.write_enum.Goals as goal

pub returns : goal.returns
returns c = search rules
