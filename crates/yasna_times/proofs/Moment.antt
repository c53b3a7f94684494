-- One date-time to each clock, and to each local date-time and offset.
use Rattle.std.proofs.Common.{◌≡◌, ℕ, ◌<◌, ◌++◌, List, ℤ, pos, negsuc, neg_ℤ, ◌≤ℤ◌, unsigned_abs, ◌/◌, ◌+◌, Bool, ◌*ℤ◌, ◌-ℤ◌, sym, ap, ◌∙◌, arith}
use Rattle.std.proofs.lemmas.Bool.Decides.{nat_tests}
use Rattle.std.specs.Str.{IsAscii}
use Rattle.jiff.specs.Types.{Date, DateTime}
use Rattle.jiff.specs.Words.{civil_nanos, IsYmd, IsHms, nanos_of_seconds}
use Rattle.jiff.proofs.Family.{same_datetime, civil_nanos-parts}
use Rattle.jiff.proofs.SpanFacts.{signed_arith}
use Rattle.yasna_times.specs.Moment.{Moment, IsLess, after_year, moment, moment_at}
use Rattle.yasna_times.specs.Decimal.{HasDigits, two_digits}
use Rattle.yasna_times.specs.Fraction.{trimmed, nine_digits}
use Rattle.yasna_times.specs.GeneralizedTime.{IsWholeMinutes}
use Rattle.yasna_times.proofs.Decimal.{ascii_two, two_before, no_digits}

-- date-times with the same parts are equal
pub clock_is : (a b : DateTime) (year month day hour minute second nano : ℤ) → IsYmd year month day a.date → IsYmd year month day b.date →
    IsHms hour minute second nano a.time → IsHms hour minute second nano b.time → a ≡ b
clock_is a b year month day hour minute second nano d e t u =
    let y : a.date.year ≡ b.date.year = d.0 ∙ sym e.0 in
    let m : a.date.month ≡ b.date.month = cc in
    let n : a.date.day ≡ b.date.day = cc in
    let h : a.time.hour ≡ b.time.hour = cc in
    let k : a.time.minute ≡ b.time.minute = cc in
    let s : a.time.second ≡ b.time.second = cc in
    let f : a.time.subsec_nanosecond ≡ b.time.subsec_nanosecond = cc in
    same_datetime a b (civil_nanos-parts a ∙ (cc) ∙ sym (civil_nanos-parts b))

-- date-times that are one local date-time less one offset are equal
pub one_utc : (l r a b : DateTime) (z y : ℤ) → l ≡ r → z ≡ y → IsLess l z a → IsLess r y b → a ≡ b
one_utc l r a b z y e f p q = same_datetime a b (p ∙ ap (λ x. civil_nanos x -ℤ nanos_of_seconds z) e ∙ ap (λ x. civil_nanos r -ℤ nanos_of_seconds x) f ∙ sym q)

-- a date-time less nothing
pub less_none : (dt : DateTime) → IsLess dt (pos 0) dt
less_none dt = omega (arith, signed_arith)

-- the parts of a date have two digits
pub month_short : (d : Date) → d.month < 100
month_short d = omega (arith, d.month_in)

pub day_short : (d : Date) → d.day < 100
day_short d = grind (arith, nat_tests, d.day_in)

-- a moment whose parts have two digits
pub record IsShort (m : Moment) : Type 0 where
  pub hour : m.hour < 100
  pub minute : m.minute < 100
  pub second : m.second < 100

-- the ten digits after the year are ASCII
pub after_year_ascii : (m : Moment) (s : List ℕ) → IsShort m → IsAscii s → IsAscii (after_year m ++ s)
after_year_ascii m s h a =
    let seconds = two_digits m.second ++ s in
    let minutes = two_digits m.minute ++ seconds in
    let hours = two_digits m.hour ++ minutes in
    let days = two_digits m.date.day ++ hours in
    ascii_two m.date.month days (month_short m.date)
    (ascii_two m.date.day hours (day_short m.date) (ascii_two m.hour minutes h.hour (ascii_two m.minute seconds h.minute (ascii_two m.second s h.second a))))

-- the ten characters after the year are digits
pub after_year_digits : (m : Moment) (s : List ℕ) → IsShort m → HasDigits (after_year m ++ s) 0 10
after_year_digits m s h =
    let seconds = two_digits m.second ++ s in
    let minutes = two_digits m.minute ++ seconds in
    let hours = two_digits m.hour ++ minutes in
    let days = two_digits m.date.day ++ hours in
    two_before m.date.month days 8 (month_short m.date)
    (two_before m.date.day hours 6 (day_short m.date)
    (two_before m.hour minutes 4 h.hour (two_before m.minute seconds 2 h.minute (two_before m.second s 0 h.second (no_digits s)))))

-- the moment of a date-time that differs in the nanosecond alone
pub moment_is : (utc dt : DateTime) (nano : ℕ) (sub_nano : List ℕ) (leap flag : Bool) → dt.date ≡ utc.date →
    IsHms (pos utc.time.hour) (pos utc.time.minute) (pos utc.time.second) (pos nano) dt.time → flag ≡ leap →
    moment dt sub_nano flag ≡ moment_at utc leap (trimmed (nine_digits nano ++ sub_nano))
moment_is utc dt nano sub_nano leap flag d t e =
    let h : dt.time.hour ≡ utc.time.hour = cc in
    let k : dt.time.minute ≡ utc.time.minute = cc in
    let s : dt.time.second ≡ utc.time.second = cc in
    let f : dt.time.subsec_nanosecond ≡ nano = cc in
    let g = ap (λ n. trimmed (nine_digits n ++ sub_nano)) f in
    cc

whole_nanos : (offset : ℤ) → IsWholeMinutes offset → (k : ℤ) × (nanos_of_seconds offset ≡ k *ℤ pos 60000000000)
whole_nanos (pos n) h = (pos (n / 60), omega (arith, signed_arith))
whole_nanos (negsuc n) h = (neg_ℤ (pos ((n + 1) / 60)), omega (arith, signed_arith))

-- whole minutes leave the second
pub second_shown : (local utc : DateTime) (offset : ℤ) → IsWholeMinutes offset → IsLess local offset utc → utc.time.second ≡ local.time.second
second_shown local utc offset h less =
    let w = whole_nanos offset h in
    let l = local.time.second_in in
    let u = utc.time.second_in in
    let m = local.time.subsec_in in
    let n = utc.time.subsec_in in
    omega (arith, signed_arith, less, w.1, civil_nanos-parts local, civil_nanos-parts utc, l, u, m, n)

year_short : (z : ℤ) → neg_ℤ (pos 9999) ≤ℤ z → z ≤ℤ pos 9999 → unsigned_abs z / 100 < 100
year_short (pos n) low high = omega (arith, signed_arith)
year_short (negsuc n) low high = omega (arith, signed_arith)

-- the first two digits of a year
pub century_short : (d : Date) → unsigned_abs d.year / 100 < 100
century_short d = year_short d.year d.year_in.0 d.year_in.1
