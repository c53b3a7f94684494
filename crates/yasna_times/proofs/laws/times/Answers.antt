use Rattle.yasna_times.proofs.TimeLaws.{utc_time_keeps, generalized_time_keeps}
use Rattle.yasna_times.proofs.laws.times.Goals as goal

pub returns-clause-utc : goal.returns-clause-utc
returns-clause-utc c = utc_time_keeps

pub returns-clause-general : goal.returns-clause-general
returns-clause-general c = generalized_time_keeps
