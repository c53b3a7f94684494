use Rattle.std.proofs.Common.{rules}
use Rattle.yasna_reader.proofs.set.Chosen.next.Goals as goal

pub returns : goal.returns
returns g c = search rules
