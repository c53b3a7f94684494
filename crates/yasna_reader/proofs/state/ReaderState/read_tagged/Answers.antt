use Rattle.std.proofs.Common.{rules}
use Rattle.yasna_reader.proofs.Sequences.{stepped_in}
use Rattle.yasna_reader.proofs.state.ReaderState.read_tagged.Goals as goal

pub returns : goal.returns
returns g c = search (rules, stepped_in)
