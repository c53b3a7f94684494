use Rattle.std.proofs.Common.{rules}
use Rattle.yasna_reader.proofs.state.ReaderState.parsed.Goals as goal

pub returns-else-is_empty : goal.returns-else-is_empty
returns-else-is_empty g c = search rules
