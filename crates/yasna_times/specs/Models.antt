-- What contracts see of both times.
use Rattle.std.specs.Prelude.{◌≡◌, ℕ, List, ℤ, false}
pub use Rattle.jiff.specs.Types.{DateTime}
use Rattle.yasna_times.specs.declared.models.generalized_time.GeneralizedTime.{GeneralizedTime}
use Rattle.yasna_times.specs.declared.models.utc_time.UTCTime.{UTCTime}
use Rattle.yasna_base.specs.Grammar.{Grammar}
use Rattle.yasna_times.specs.GeneralizedTime.{EncodesGeneralizedTime, general_text}
use Rattle.yasna_times.specs.Moment.{Moment, IsLess, moment}
use Rattle.yasna_times.specs.UtcTime.{EncodesUtcTime}

-- the date-time in UTC
abbrev pub utc_of : UTCTime → DateTime
utc_of t = t.datetime

-- the moment
abbrev pub moment_of : GeneralizedTime → Moment
moment_of t = moment t.datetime t.sub_nano.items t.is_leap_second

-- the time is the local date-time less so many seconds, with these digits after the nanosecond
pub record IsTimeAt (local : DateTime) (seconds : ℤ) (sub_nano : List ℕ) (t : GeneralizedTime) : Type 0 where
  pub less : IsLess local seconds t.datetime
  pub digits : t.sub_nano.items ≡ sub_nano
  pub flag : t.is_leap_second ≡ false

-- two times are one
pub record SameTime (a b : GeneralizedTime) : Type 0 where
  pub datetime : a.datetime ≡ b.datetime
  pub digits : a.sub_nano.items ≡ b.sub_nano.items
  pub flag : a.is_leap_second ≡ b.is_leap_second

-- times of one moment are one, and print the same bytes
abbrev pub TimesAreMoments : Type 0
TimesAreMoments =
    (a b : GeneralizedTime) → moment_of a ≡ moment_of b → SameTime a b × (general_text (moment_of a) ≡ general_text (moment_of b))

-- the types' grammars under their own tags
abbrev pub EncodesUtc : Grammar UTCTime
EncodesUtc m n v b = EncodesUtcTime m n (utc_of v) b

-- the grammar of GeneralizedTime under its own tag
abbrev pub EncodesGeneral : Grammar GeneralizedTime
EncodesGeneral m n v b = EncodesGeneralizedTime m n (moment_of v) b
