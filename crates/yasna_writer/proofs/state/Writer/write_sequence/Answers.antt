use Rattle.std.proofs.Common.{rules}
use Rattle.yasna_writer.proofs.state.Writer.write_sequence.Goals as goal

pub returns : goal.returns
returns g c = search rules
