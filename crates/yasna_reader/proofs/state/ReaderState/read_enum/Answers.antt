use Rattle.std.proofs.Common.{rules}
use Rattle.yasna_reader.proofs.state.ReaderState.read_enum.Goals as goal

pub returns : goal.returns
returns c = search rules
