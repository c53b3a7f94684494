use Rattle.std.proofs.Common.{refl, subst}
use Rattle.std.proofs.lemmas.Bool.{false≢true}
use Rattle.yasna_times.specs.Moment.{IsLess}
use Rattle.yasna_times.proofs.GeneralizedTime.{general_clock_is}
use Rattle.yasna_times.proofs.models.generalized_time.clock.reading.Goals as goal

pub returns-in-Some-in_years : goal.returns-in-Some-in_years
returns-in-Some-in_years c =
    record {
      local = c.in-Some.local;
      clock = c.in-Some.ensures;
      less = c.in-Some-in_years.ensures.1;
      in_years = c.in-Some-in_years.ensures.0;
      whole = c.if-not-is_timely.ensures.0 refl;
    }

pub returns-in-None : goal.returns-in-None
returns-in-None c =
    λ utc r.
    let same = general_clock_is c.args.bytes.now c.args.end c.args.seconds r.local c.in-Some.local r.clock c.in-Some.ensures in
    c.in-None.ensures (utc, (r.in_years, subst (λ x. IsLess x c.args.offset.seconds utc) same r.less))

pub returns-then-not-is_timely : goal.returns-then-not-is_timely
returns-then-not-is_timely c = λ utc r. false≢true (c.if-not-is_timely.ensures.1 r.whole)

pub returns-in_default : goal.returns-in_default
returns-in_default c = λ utc r. c.in_default.ensures r.local r.clock

pub is_timely-requires-clause-inside : goal.is_timely-requires-clause-inside
is_timely-requires-clause-inside c = c.requires.inside

pub is_timely-requires-clause-digits : goal.is_timely-requires-clause-digits
is_timely-requires-clause-digits c = c.requires.digits

pub local-requires-clause-ends : goal.local-requires-clause-ends
local-requires-clause-ends c = c.requires.ends

pub local-requires-clause-inside : goal.local-requires-clause-inside
local-requires-clause-inside c = c.requires.inside

pub local-requires-clause-digits : goal.local-requires-clause-digits
local-requires-clause-digits c = c.requires.digits

pub local-requires-clause-bound : goal.local-requires-clause-bound
local-requires-clause-bound c = c.requires.bound
