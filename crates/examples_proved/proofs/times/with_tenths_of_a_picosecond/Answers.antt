use Rattle.std.proofs.Common.{sym, subst, pos}
use Rattle.std.proofs.lemmas.Result.{IfOk-weaker}
use Rattle.yasna.specs.time.Fraction.{trimmed}
use Rattle.yasna.specs.time.GeneralizedTime.{IsInYears}
use Rattle.yasna.specs.time.Models.{IsTimeAt}
use Rattle.yasna.proofs.time.Moment.{less_none}
use Rattle.examples_proved.specs.Times.{four_digits}
use Rattle.examples_proved.proofs.Moments.{four_of, at_tenths}
use Rattle.examples_proved.proofs.times.with_tenths_of_a_picosecond.Goals as goal

-- src/times.rt:54:5
pub from_datetime_and_sub_nano-requires-clause-years :
    goal.from_datetime_and_sub_nano-requires-clause-years
from_datetime_and_sub_nano-requires-clause-years c =
    let utc = c.datetime-local.result.now in
    (utc, (subst IsInYears (sym c.datetime-local.ensures) c.args.time.now.in_years, less_none utc))

-- src/times.rt:39:1
pub returns : goal.returns
returns c =
    let t = c.args.time.now in
    let n = c.args.tenths in
    let digits = four_of n _ _ _ _ c.as_slice.result.now c.last_digit.ensures c.last_digit-2.ensures c.last_digit-3.ensures c.last_digit-4.ensures
    c.as_slice.ensures in
    IfOk-weaker c.from_datetime_and_sub_nano.result _ _
    (λ u h. at_tenths t.datetime n u (subst (λ x. IsTimeAt x (pos 0) (trimmed (four_digits n)) u) c.datetime-local.ensures
    (subst (λ s. IsTimeAt c.datetime-local.result.now (pos 0) (trimmed s) u) digits h)))
    c.from_datetime_and_sub_nano.ensures.time
