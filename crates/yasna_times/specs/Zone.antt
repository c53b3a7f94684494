-- The zone at the end of a time: Z, or how far its clock is ahead of UTC.
use Rattle.std.specs.Prelude.{◌≡◌, ◌⊎◌, ℕ, ◌+◌, ◌*◌, ◌<◌, List, ℤ, pos, neg_ℤ, slice_index, length, Option, Some, None}
use Rattle.jiff.specs.Types.{Offset}
use Rattle.yasna_times.specs.Decimal.{HasDigits, two_at}

-- the text ends by hours at i, which are so many seconds
pub record IsHours (s : List ℕ) (i seconds : ℕ) : Type 0 where
  pub ends : length s ≡ i + 2
  pub digits : HasDigits s i (i + 2)
  pub hours : two_at s i < 24
  pub is : seconds ≡ two_at s i * 3600

-- the text ends by hours and minutes at i, which are so many seconds
pub record IsHoursAndMinutes (s : List ℕ) (i seconds : ℕ) : Type 0 where
  pub ends : length s ≡ i + 4
  pub digits : HasDigits s i (i + 4)
  pub hours : two_at s i < 24
  pub minutes : two_at s (i + 2) < 60
  pub is : seconds ≡ two_at s i * 3600 + two_at s (i + 2) * 60

-- the text ends by hours or by hours and minutes at i
abbrev pub IsAmount : List ℕ → ℕ → ℕ → Type 0
IsAmount s i seconds = IsHours s i seconds ⊎ IsHoursAndMinutes s i seconds

-- the text ends by Z at i
pub record IsZulu (s : List ℕ) (i : ℕ) : Type 0 where
  pub letter : slice_index s i ≡ 90
  pub ends : length s ≡ i + 1

-- an offset from UTC by its sign, `+` or `-`, and its seconds
pub data IsOffset (sign seconds : ℕ) (offset : ℤ) : Type 0 where
  plus : sign ≡ 43 → offset ≡ pos seconds → IsOffset sign seconds offset
  minus : sign ≡ 45 → offset ≡ neg_ℤ (pos seconds) → IsOffset sign seconds offset

-- the seconds of an offset, if there is one
abbrev pub seconds_of : Option Offset → Option ℤ
seconds_of None = None
seconds_of (Some offset) = Some offset.seconds
