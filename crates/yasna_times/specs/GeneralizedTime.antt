-- GeneralizedTime (X.680, 46; X.690, 11.7).
use Rattle.std.specs.Prelude.{◌≡◌, ◌⊎◌, ℕ, ◌+◌, ◌-◌, ◌*◌, ◌/◌, ◌%◌, ◌<◌, ◌≤◌, List, [], ◌∷◌, ◌++◌, ℤ, pos, ◌≤ℤ◌, unsigned_abs, slice_index, length, take, drop, ◌==◌, if◌then◌else◌, Option, Some, None, Bool, true, false}
use Rattle.jiff.specs.Types.{DateTime}
use Rattle.jiff.specs.Words.{IsYmd, IsHms}
use Rattle.yasna_base.specs.declared.mode.BERMode.{BERMode}
use Rattle.yasna_base.specs.declared.tag.Tag.{Tag}
use Rattle.yasna_base.specs.Canonical.{IsCanonicalMode}
use Rattle.yasna_times.specs.Decimal.{AreDigits, IsRun, two_at, two_digits}
use Rattle.yasna_times.specs.Fraction.{IsReducedFraction, IsTrimmed}
use Rattle.yasna_base.specs.Grammar.{Grammar, Encoding, Depth}
use Rattle.yasna_base.specs.Identifier.{universal}
use Rattle.yasna_base.specs.Laws.{KeepsLaws}
use Rattle.yasna_times.specs.Moment.{Moment, IsLess, moment_at, after_year}
use Rattle.yasna_base.specs.Octets.{octets_encoding, octets_depth}
use Rattle.yasna_base.specs.Text.{IsStringOf}
use Rattle.yasna_times.specs.Zone.{IsZulu, IsAmount, IsOffset}

-- the tag of GeneralizedTime
abbrev pub generalized_time_tag : Tag
generalized_time_tag = universal 24

-- the year is 0 or later; none is later than 9999
abbrev pub IsInYears : DateTime → Type 0
IsInYears dt = pos 0 ≤ℤ dt.date.year

-- the local date-time less an offset of so many seconds is in these years
abbrev pub HasGeneralizedTime : DateTime → ℤ → Type 0
HasGeneralizedTime local seconds = (utc : DateTime) × (IsInYears utc × IsLess local seconds utc)

-- second 60 is represented as second 59 with a flag
abbrev pub IsFlagged : Bool → DateTime → Type 0
IsFlagged leap dt = leap ≡ true → dt.time.second ≡ 59

-- the clock ends with the hour, the minute or the second
abbrev pub IsClockEnd : ℕ → Type 0
IsClockEnd end = (end ≡ 10) ⊎ (end ≡ 12) ⊎ (end ≡ 14)

-- a point or a comma
abbrev pub IsDecimalMark : ℕ → Type 0
IsDecimalMark b = (b ≡ 46) ⊎ (b ≡ 44)

-- from i to j there is nothing, or a decimal mark and digits, which end there
pub data IsPart (s : List ℕ) (i j : ℕ) : Type 0 where
  none : j ≡ i → IsPart s i j
  some : IsDecimalMark (slice_index s i) → i + 1 < j → IsRun s (i + 1) j → IsPart s i j

-- the text ends by a zone at i: Z, or + or - and hh or hhmm; or without one, where an offset is given
pub data IsZone (s : List ℕ) (given : Option ℤ) (i : ℕ) (offset : ℤ) : Type 0 where
  local_time : given ≡ Some offset → length s ≡ i → IsZone s given i offset
  zulu : IsZulu s i → offset ≡ pos 0 → IsZone s given i offset
  signed : (seconds : ℕ) → IsAmount s (i + 1) seconds → IsOffset (slice_index s i) seconds offset → IsZone s given i offset

-- the text is the digits of a clock, which end at end, a fraction of its last unit up to zone, and a zone
pub record IsLayout (s : List ℕ) (given : Option ℤ) (end zone : ℕ) (offset : ℤ) : Type 0 where
  pub ends : IsClockEnd end
  pub clock : IsRun s 0 end
  pub part : IsPart s end zone
  pub at_end : IsZone s given zone offset

-- the seconds of the clock's last unit
abbrev pub unit_of : ℕ → ℕ
unit_of end = if end == 10 then 3600 else if end == 12 then 60 else 1

-- the digits of the fraction
abbrev pub part_digits : List ℕ → ℕ → ℕ → List ℕ
part_digits s end zone = take (zone - (end + 1)) (drop (end + 1) s)

-- the clock shows second 60
abbrev pub is_leap : List ℕ → ℕ → Bool
is_leap s end = if end == 14 then two_at s 12 == 60 else false

-- the minute, by the seconds in the fraction of the last unit
abbrev pub minute_of : List ℕ → ℕ → ℕ → ℕ
minute_of s end seconds = if end == 10 then seconds / 60 else two_at s 10

-- the second, by the seconds in the fraction of the last unit; 59 for 60
abbrev pub second_of : List ℕ → ℕ → ℕ → ℕ
second_of s end seconds = if end == 14 then (if two_at s 12 == 60 then 59 else two_at s 12) else seconds % 60

-- YYYYMMDDhh, YYYYMMDDhhmm or YYYYMMDDhhmmss with the fraction's seconds is the local date-time
pub record IsGeneralClock (s : List ℕ) (end seconds : ℕ) (local : DateTime) : Type 0 where
  pub date : IsYmd (pos (two_at s 0 * 100 + two_at s 2)) (pos (two_at s 4)) (pos (two_at s 6)) local.date
  pub time : IsHms (pos (two_at s 8)) (pos (minute_of s end seconds)) (pos (second_of s end seconds)) (pos 0) local.time

-- a number of seconds that is one of minutes
abbrev pub IsWholeMinutes : ℤ → Type 0
IsWholeMinutes offset = unsigned_abs offset % 60 ≡ 0

-- the clock with the fraction's seconds, at the offset, is the date-time in UTC; second 60 needs an offset of whole minutes
pub record IsGeneralReading (s : List ℕ) (end seconds : ℕ) (offset : ℤ) (utc : DateTime) : Type 0 where
  pub local : DateTime
  pub clock : IsGeneralClock s end seconds local
  pub less : IsLess local offset utc
  pub in_years : IsInYears utc
  pub whole : is_leap s end ≡ true → IsWholeMinutes offset

-- the text, where it has no zone at the given offset, says the moment
pub record IsGeneralText (s : List ℕ) (given : Option ℤ) (m : Moment) : Type 0 where
  pub end : ℕ
  pub zone : ℕ
  pub offset : ℤ
  pub layout : IsLayout s given end zone offset
  pub seconds : ℕ
  pub exact : IsReducedFraction (unit_of end) (part_digits s end zone) seconds m.fraction
  pub utc : DateTime
  pub reading : IsGeneralReading s end seconds offset utc
  pub is : m ≡ moment_at utc (is_leap s end) m.fraction

-- the text has the layout of one, and its fraction more than nine digits
abbrev pub HasLongFraction : List ℕ → Option ℤ → Type 0
HasLongFraction s given = (end zone : ℕ) × (offset : ℤ) × IsLayout s given end zone offset × (9 < length (part_digits s end zone))

-- a moment that has a text
pub record IsGeneralMoment (m : Moment) : Type 0 where
  pub in_years : pos 0 ≤ℤ m.date.year
  pub hour : m.hour < 24
  pub minute : m.minute < 60
  pub second : m.second ≤ 60
  pub digits : AreDigits m.fraction
  pub trimmed : IsTrimmed m.fraction

-- a point before digits
abbrev pub point_digits : List ℕ → List ℕ
point_digits [] = []
point_digits (c ∷ cs) = 46 ∷ c ∷ cs

-- YYYYMMDDhhmmss
abbrev pub clock_digits : Moment → List ℕ
clock_digits m = two_digits (unsigned_abs m.date.year / 100) ++ (two_digits (unsigned_abs m.date.year % 100) ++ after_year m)

-- the canonical text: the clock, the fraction of the second after a point, Z
abbrev pub general_text : Moment → List ℕ
general_text m = clock_digits m ++ (point_digits m.fraction ++ 90 ∷ [])

-- a text says one moment, of these ranges, and the canonical text of one says it
pub record GeneralTextsAreExact : Type 0 where
  pub one : (s : List ℕ) (given : Option ℤ) (a b : Moment) → IsGeneralText s given a → IsGeneralText s given b → a ≡ b
  pub ranges : (s : List ℕ) (given : Option ℤ) (m : Moment) → IsGeneralText s given m → IsGeneralMoment m
  pub canonical : (m : Moment) → IsGeneralMoment m → (given : Option ℤ) → IsGeneralText (general_text m) given m

-- the octets are a text of the moment, in a canonical mode the canonical one
pub record SpellsGeneralizedTime (m : BERMode) (v : Moment) (s : List ℕ) : Type 0 where
  pub text : IsGeneralText s None v
  pub canonical : IsCanonicalMode m → s ≡ general_text v

-- the type's grammar under its own tag
abbrev pub EncodesGeneralizedTime : Grammar Moment
EncodesGeneralizedTime = IsStringOf SpellsGeneralizedTime generalized_time_tag

-- the encoding in a canonical mode
abbrev pub generalized_time_encoding : Tag → Encoding Moment
generalized_time_encoding t m v = octets_encoding t m (general_text v)

-- its depth
abbrev pub generalized_time_depth : Depth Moment
generalized_time_depth m v = octets_depth m (general_text v)

-- GeneralizedTime satisfies the laws under any tag
abbrev pub GeneralizedTimeKeepsLaws : Type 0
GeneralizedTimeKeepsLaws = KeepsLaws (IsStringOf SpellsGeneralizedTime) generalized_time_encoding generalized_time_depth IsGeneralMoment
