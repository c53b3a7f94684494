-- Moments in UTC.
use Rattle.std.specs.Prelude.{◌≡◌, ℕ, List, ◌++◌, ℤ, ◌-ℤ◌, Bool, if◌then◌else◌}
use Rattle.jiff.specs.Types.{Date, DateTime}
use Rattle.jiff.specs.Words.{civil_nanos, nanos_of_seconds}
use Rattle.yasna_times.specs.Decimal.{two_digits}
use Rattle.yasna_times.specs.Fraction.{trimmed, nine_digits}

-- A day of the proleptic Gregorian calendar, and what a clock shows. Second 60 is a second of its own. The digits of the
-- second's fraction have no 0 at their end
pub record Moment : Type 0 where
  pub date : Date
  pub hour : ℕ
  pub minute : ℕ
  pub second : ℕ
  pub fraction : List ℕ

-- utc is the local date-time less an offset of so many seconds
abbrev pub IsLess : DateTime → ℤ → DateTime → Type 0
IsLess local seconds utc = civil_nanos utc ≡ civil_nanos local -ℤ nanos_of_seconds seconds

-- the moment of a date-time in UTC, where second 60 is represented as second 59 with a flag
abbrev pub moment_at : DateTime → Bool → List ℕ → Moment
moment_at utc leap fraction =
    record {
      date = utc.date;
      hour = utc.time.hour;
      minute = utc.time.minute;
      second = if leap then 60 else utc.time.second;
      fraction = fraction;
    }

-- the moment of a date-time, the digits after its nanosecond, and the flag of second 60
abbrev pub moment : DateTime → List ℕ → Bool → Moment
moment utc sub_nano leap = moment_at utc leap (trimmed (nine_digits utc.time.subsec_nanosecond ++ sub_nano))

-- MMDDhhmmss
abbrev pub after_year : Moment → List ℕ
after_year m =
    two_digits m.date.month ++ (two_digits m.date.day ++ (two_digits m.hour ++ (two_digits m.minute ++ two_digits m.second)))
