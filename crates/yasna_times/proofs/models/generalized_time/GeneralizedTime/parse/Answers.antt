use Rattle.std.proofs.Common.{rules}
use Rattle.yasna_times.proofs.models.generalized_time.GeneralizedTime.parse.Goals as goal

pub returns-clause-exact : goal.returns-clause-exact
returns-clause-exact c = search rules

pub returns-clause-memory : goal.returns-clause-memory
returns-clause-memory c = search rules
