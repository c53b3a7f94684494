use Rattle.std.proofs.Common.{rules}
use Rattle.yasna_reader.proofs.optional.PartsReader+ReaderState.read_optional.Goals as goal

pub returns-in-Failed : goal.returns-in-Failed
returns-in-Failed g c = search rules
