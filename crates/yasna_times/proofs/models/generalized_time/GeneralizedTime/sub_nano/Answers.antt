use Rattle.std.proofs.Common.{rules}
use Rattle.yasna_times.proofs.models.generalized_time.GeneralizedTime.sub_nano.Goals as goal

pub returns : goal.returns
returns c = search rules
