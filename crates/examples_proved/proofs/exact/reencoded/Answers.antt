use Rattle.std.proofs.Common.{rules}
use Rattle.examples_proved.proofs.exact.reencoded.Goals as goal

pub returns-clause-same : goal.returns-clause-same
returns-clause-same g c = search rules
