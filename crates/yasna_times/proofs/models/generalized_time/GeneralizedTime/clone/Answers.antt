use Rattle.std.proofs.Common.{rules}
use Rattle.yasna_times.proofs.models.generalized_time.GeneralizedTime.clone.Goals as goal

pub returns-clause-same : goal.returns-clause-same
returns-clause-same c = search rules
