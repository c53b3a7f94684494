use Rattle.std.proofs.Common.{◌∙◌}
use Rattle.yasna.proofs.time.Moment.{less_none}
use Rattle.examples_proved.proofs.Moments.{less_nothing}
use Rattle.examples_proved.proofs.times.remade_utc_time.Goals as goal

-- src/times.rt:13:5
pub from_datetime-requires : goal.from_datetime-requires
from_datetime-requires c = (c.datetime.result.now, (c.datetime.ensures.bound, less_none c.datetime.result.now))

-- src/times.rt:10:1
pub returns : goal.returns
returns c = less_nothing c.datetime.result.now c.from_datetime.result.datetime c.from_datetime.ensures ∙ c.datetime.ensures.value
