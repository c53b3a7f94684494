use Rattle.std.proofs.Common.{ap}
use Rattle.yasna_times.specs.GeneralizedTime.{general_text}
use Rattle.yasna_times.proofs.OneMoment.{same_moment}
use Rattle.yasna_times.proofs.laws.moments.Goals as goal

pub returns : goal.returns
returns c = λ a b e. (same_moment a b e, ap general_text e)
