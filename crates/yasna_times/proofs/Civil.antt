-- The calendar: it takes the parts of a date and of a time of day, and a signed number below 100 keeps its value on the way to it.
use Rattle.std.proofs.Common.{◌≡◌, ℕ, ◌<◌, ◌≤◌, ℤ, pos, arith, ap, subst, sym, w8, w16, to_z, of_z, ◌∙◌}
use Rattle.std.proofs.lemmas.Int.{ints}
use Rattle.jiff.specs.Types.{Date, Time}
use Rattle.jiff.specs.Words.{IsBetween, days_in_month, IsDate, IsTime, IsYmd, IsHms}

pub round_trip_8 : (z : ℤ) (n : ℕ) → z ≡ pos n → n < 100 → to_z w8 (of_z w8 z) ≡ pos n
round_trip_8 z n e h = ap (λ (x : ℤ). to_z w8 (of_z w8 x)) e ∙ (omega (arith, ints))

pub round_trip_16 : (z : ℤ) (n : ℕ) → z ≡ pos n → n < 10000 → to_z w16 (of_z w16 z) ≡ pos n
round_trip_16 z n e h = ap (λ (x : ℤ). to_z w16 (of_z w16 x)) e ∙ (omega (arith, ints))

between : (a b n : ℕ) → (a ≤ n) × (n ≤ b) → IsBetween (pos a) (pos b) (pos n)
between a b n h = (omega (arith, ints, h.0), omega (arith, ints, h.1))

pub parts_of_date : (y m d : ℤ) (x : Date) → IsYmd y m d x → IsDate y m d
parts_of_date y m d x e =
    let p : IsDate x.year (pos x.month) (pos x.day) = (x.year_in, between 1 12 x.month x.month_in, between 1 (days_in_month x.year x.month) x.day x.day_in) in
    subst (λ (z : ℤ). IsDate z m d) e.0 (subst (λ (z : ℤ). IsDate x.year z d) e.1 (subst (IsDate x.year (pos x.month)) e.2 p))

pub parts_of_time : (h m s n : ℤ) (x : Time) → IsHms h m s n x → IsTime h m s n
parts_of_time h m s n x e =
    (omega (arith, ints, x.hour_in), omega (arith, ints, x.minute_in), omega (arith, ints, x.second_in), omega (arith, ints, x.subsec_in))

-- a part of two digits, on its way to a function that takes one
pub short_part : (z : ℤ) (n : ℕ) → z ≡ pos n → n < 100 → IsBetween (pos 0) (pos 99) (to_z w8 (of_z w8 z))
short_part z n e h = subst (IsBetween (pos 0) (pos 99)) (sym (round_trip_8 z n e h)) (omega (arith, ints, h), omega (arith, ints, h))

-- the parts of a time of day have two digits
pub hour_short : (t : Time) → t.hour < 100
hour_short t = omega (arith, t.hour_in)

pub minute_short : (t : Time) → t.minute < 100
minute_short t = omega (arith, t.minute_in)

pub second_short : (t : Time) → t.second < 100
second_short t = omega (arith, t.second_in)
