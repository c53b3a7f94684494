use Rattle.std.proofs.Common.{rules}
use Rattle.yasna_reader.proofs.state.ReaderState.read_bitvec_bytes.Goals as goal

pub returns : goal.returns
returns c = search rules
