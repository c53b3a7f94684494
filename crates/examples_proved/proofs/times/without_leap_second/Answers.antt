use Rattle.std.proofs.Common.{sym, subst, pos}
use Rattle.std.proofs.lemmas.Result.{IfOk-weaker}
use Rattle.yasna.specs.time.Fraction.{trimmed}
use Rattle.yasna.specs.time.GeneralizedTime.{IsInYears}
use Rattle.yasna.specs.time.Models.{IsTimeAt}
use Rattle.yasna.proofs.time.Moment.{less_none}
use Rattle.examples_proved.proofs.Moments.{unflagged}
use Rattle.examples_proved.proofs.times.without_leap_second.Goals as goal

-- src/times.rt:33:5
pub from_datetime_and_sub_nano-requires-clause-years :
    goal.from_datetime_and_sub_nano-requires-clause-years
from_datetime_and_sub_nano-requires-clause-years c =
    let utc = c.datetime-local.result.now in
    (utc, (subst IsInYears (sym c.datetime-local.ensures) c.args.time.now.in_years, less_none utc))

-- src/times.rt:26:1
pub returns : goal.returns
returns c =
    let t = c.args.time.now in
    IfOk-weaker c.from_datetime_and_sub_nano.result _ _
    (λ u h. unflagged t u (subst (λ x. IsTimeAt x (pos 0) (trimmed t.sub_nano.items) u) c.datetime-local.ensures
    (subst (λ s. IsTimeAt c.datetime-local.result.now (pos 0) (trimmed s) u) c.sub_nano.ensures h)))
    c.from_datetime_and_sub_nano.ensures.time
