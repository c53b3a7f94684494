use Rattle.std.proofs.Common.{rules}
use Rattle.yasna_reader.proofs.state.ReaderState.commit.Goals as goal

pub returns-after-rejection : goal.returns-after-rejection
returns-after-rejection g c = search rules
