use Rattle.std.proofs.Common.{rules}
use Rattle.yasna_reader.proofs.set.returned_of_all.Goals as goal

pub returns-in_default : goal.returns-in_default
returns-in_default g c = search rules
