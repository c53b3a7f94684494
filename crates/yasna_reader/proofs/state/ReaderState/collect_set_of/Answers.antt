use Rattle.std.proofs.Common.{rules}
use Rattle.yasna_reader.proofs.state.ReaderState.collect_set_of.Goals as goal

pub returns : goal.returns
returns g c = search rules
