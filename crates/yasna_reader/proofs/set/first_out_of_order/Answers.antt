use Rattle.std.proofs.Common.{rules}
use Rattle.yasna_reader.proofs.set.first_out_of_order.Goals as goal

pub returns-in-Der : goal.returns-in-Der
returns-in-Der c = search rules
