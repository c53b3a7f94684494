use Rattle.std.proofs.Common.{◌∙◌, ap}
use Rattle.yasna.proofs.time.Moment.{less_none}
use Rattle.examples_proved.proofs.Moments.{at_second, in_years}
use Rattle.examples_proved.specs.Times.{to_the_second}
use Rattle.examples_proved.proofs.times.as_generalized_time.Goals as goal

-- src/times.rt:20:5
pub from_datetime-requires : goal.from_datetime-requires
from_datetime-requires c =
    let utc = c.datetime.result.now in
    (utc, (in_years utc c.datetime.ensures.bound, less_none utc))

-- src/times.rt:17:1
pub returns : goal.returns
returns c =
    at_second c.datetime.result.now c.from_datetime.result c.datetime.ensures.bound.whole c.from_datetime.ensures
    ∙ ap to_the_second c.datetime.ensures.value
