-- UTCTime (X.680, 47; X.690, 11.8).
use Rattle.std.specs.Prelude.{◌≡◌, ◌⊎◌, ℕ, ◌+◌, ◌%◌, List, [], ◌∷◌, ◌++◌, ℤ, pos, ◌≤ℤ◌, ◌<ℤ◌, unsigned_abs, slice_index, ◌==◌, if◌then◌else◌, nat_lt, false}
use Rattle.jiff.specs.Types.{DateTime}
use Rattle.jiff.specs.Words.{IsYmd, IsHms}
use Rattle.yasna_base.specs.declared.mode.BERMode.{BERMode}
use Rattle.yasna_base.specs.declared.tag.Tag.{Tag}
use Rattle.yasna_base.specs.Canonical.{IsCanonicalMode}
use Rattle.yasna_times.specs.Decimal.{HasDigits, two_at, two_digits}
use Rattle.yasna_base.specs.Grammar.{Grammar, Encoding, Depth}
use Rattle.yasna_base.specs.Identifier.{universal}
use Rattle.yasna_base.specs.Laws.{KeepsLaws}
use Rattle.yasna_times.specs.Moment.{IsLess, moment_at, after_year}
use Rattle.yasna_base.specs.Octets.{octets_encoding, octets_depth}
use Rattle.yasna_base.specs.Text.{IsStringOf}
use Rattle.yasna_times.specs.Zone.{IsZulu, IsHoursAndMinutes, IsOffset}

-- the tag of UTCTime
abbrev pub utc_time_tag : Tag
utc_time_tag = universal 23

-- a date-time to the second, in a year that two digits determine
pub record IsUtcDateTime (dt : DateTime) : Type 0 where
  pub from : pos 1950 ≤ℤ dt.date.year
  pub to : dt.date.year <ℤ pos 2050
  pub whole : dt.time.subsec_nanosecond ≡ 0

-- the local date-time less an offset of so many seconds is such a date-time
abbrev pub HasUtcTime : DateTime → ℤ → Type 0
HasUtcTime local seconds = (utc : DateTime) × (IsUtcDateTime utc × IsLess local seconds utc)

-- the year of two digits: 1950 to 2049
abbrev pub utc_year : ℕ → ℕ
utc_year y = if nat_lt y 50 then 2000 + y else 1900 + y

-- the second, which is 0 where the clock ends with the minute
abbrev pub utc_second : List ℕ → ℕ → ℕ
utc_second s end = if end == 12 then two_at s 10 else 0

-- YYMMDDhhmm, or YYMMDDhhmmss, up to end, is the local date-time
pub record IsUtcClock (s : List ℕ) (end : ℕ) (local : DateTime) : Type 0 where
  pub ends : (end ≡ 10) ⊎ (end ≡ 12)
  pub digits : HasDigits s 0 end
  pub date : IsYmd (pos (utc_year (two_at s 0))) (pos (two_at s 2)) (pos (two_at s 4)) local.date
  pub time : IsHms (pos (two_at s 6)) (pos (two_at s 8)) (pos (utc_second s end)) (pos 0) local.time

-- the text ends by Z, +hhmm or -hhmm at i
pub data IsUtcZone (s : List ℕ) (i : ℕ) (offset : ℤ) : Type 0 where
  zulu : IsZulu s i → offset ≡ pos 0 → IsUtcZone s i offset
  signed : (seconds : ℕ) → IsHoursAndMinutes s (i + 1) seconds → IsOffset (slice_index s i) seconds offset → IsUtcZone s i offset

-- the text is a clock and a zone, and says the date-time in UTC
pub record IsUtcText (s : List ℕ) (utc : DateTime) : Type 0 where
  pub end : ℕ
  pub local : DateTime
  pub clock : IsUtcClock s end local
  pub offset : ℤ
  pub zone : IsUtcZone s end offset
  pub less : IsLess local offset utc
  pub in_range : IsUtcDateTime utc

-- the canonical text: YYMMDDhhmmssZ
abbrev pub utc_text : DateTime → List ℕ
utc_text utc = two_digits (unsigned_abs utc.date.year % 100) ++ (after_year (moment_at utc false []) ++ 90 ∷ [])

-- a text says one date-time, and the canonical text of one says it
pub record UtcTextsAreExact : Type 0 where
  pub one : (s : List ℕ) (a b : DateTime) → IsUtcText s a → IsUtcText s b → a ≡ b
  pub canonical : (utc : DateTime) → IsUtcDateTime utc → IsUtcText (utc_text utc) utc

-- the octets are a text of the date-time, in a canonical mode the canonical one
pub record SpellsUtcTime (m : BERMode) (utc : DateTime) (s : List ℕ) : Type 0 where
  pub text : IsUtcText s utc
  pub canonical : IsCanonicalMode m → s ≡ utc_text utc

-- the type's grammar under its own tag
abbrev pub EncodesUtcTime : Grammar DateTime
EncodesUtcTime = IsStringOf SpellsUtcTime utc_time_tag

-- the encoding in a canonical mode
abbrev pub utc_time_encoding : Tag → Encoding DateTime
utc_time_encoding t m utc = octets_encoding t m (utc_text utc)

-- its depth
abbrev pub utc_time_depth : Depth DateTime
utc_time_depth m utc = octets_depth m (utc_text utc)

-- UTCTime satisfies the laws under any tag
abbrev pub UtcTimeKeepsLaws : Type 0
UtcTimeKeepsLaws = KeepsLaws (IsStringOf SpellsUtcTime) utc_time_encoding utc_time_depth IsUtcDateTime
