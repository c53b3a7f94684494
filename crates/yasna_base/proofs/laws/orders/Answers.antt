use Rattle.std.proofs.Common.{rules}
use Rattle.yasna_base.proofs.laws.orders.Goals as goal

pub returns-clause-bits : goal.returns-clause-bits
returns-clause-bits c = search rules
