-- Moments of times that are made from the parts of other times.
use Rattle.std.specs.Prelude.{ℕ, ◌+◌, ◌/◌, ◌%◌, List, [], ◌∷◌, false, ◌==◌, if◌then◌else◌}
use Rattle.yasna.specs.time.Fraction.{trimmed}
use Rattle.yasna.specs.time.Models.{DateTime}
use Rattle.yasna.specs.time.Moment.{Moment, moment, moment_at}

-- the moment of a date-time in UTC that has no fraction of a second
abbrev pub to_the_second : DateTime → Moment
to_the_second utc = moment_at utc false []

-- second 60 as second 59
abbrev pub with_second_59 : Moment → Moment
with_second_59 m =
    record {
      date = m.date;
      hour = m.hour;
      minute = m.minute;
      second = if m.second == 60 then 59 else m.second;
      fraction = m.fraction;
    }

-- a number below 10 ^ 4 as four digits
abbrev pub four_digits : ℕ → List ℕ
four_digits n =
    (48 + n / 1000 % 10) ∷ (48 + n / 100 % 10) ∷ (48 + n / 10 % 10) ∷ (48 + n % 10) ∷ []

-- the moment of a date-time in UTC and a number of tenths of a picosecond after its nanosecond
abbrev pub with_tenths : DateTime → ℕ → Moment
with_tenths utc tenths = moment utc (trimmed (four_digits tenths)) false
