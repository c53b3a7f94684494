use Rattle.std.proofs.Common.{rules}
use Rattle.yasna_writer.proofs.state.Writer.write_set.Goals as goal

pub returns : goal.returns
returns g c = search rules
