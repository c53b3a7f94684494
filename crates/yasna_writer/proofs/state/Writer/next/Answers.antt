use Rattle.std.proofs.Common.{rules}
use Rattle.yasna_writer.proofs.state.Writer.next.Goals as goal

pub returns-clause-value : goal.returns-clause-value
returns-clause-value c = search rules
