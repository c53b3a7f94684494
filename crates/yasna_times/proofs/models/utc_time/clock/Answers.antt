use Rattle.std.proofs.Common.{ℕ, ◌+◌, ◌<◌, Bool, true, false, if◌then◌else◌, nat_lt, sym, ◌∙◌, arith}
use Rattle.std.proofs.lemmas.Bool.{false≢true}
use Rattle.yasna_times.specs.Decimal.{two_at}
use Rattle.yasna_times.specs.UtcTime.{utc_year}
use Rattle.yasna_times.proofs.Civil.{round_trip_8, round_trip_16, parts_of_date, parts_of_time}
use Rattle.yasna_times.proofs.models.utc_time.clock.Goals as goal

year_below : (b : Bool) (y : ℕ) → y < 100 → (if b then 2000 + y else 1900 + y) < 10000
year_below true y h = omega arith
year_below false y h = omega arith

below_10000 : (y : ℕ) → y < 100 → utc_year y < 10000
below_10000 y h = year_below (nat_lt y 50) y h

pub returns-in-Ok : goal.returns-in-Ok
returns-in-Ok c =
    let v = c.in-Ok.ensures.value in
    let y = c.year-year.ensures in
    let below = below_10000 (two_at c.args.bytes.now 0) y.bound in
    let m = c.signed_two-month.ensures in
    let d = c.signed_two-day.ensures in
    let h = c.signed_two-hour.ensures in
    let k = c.signed_two-minute.ensures in
    let s = c.second-second.ensures in
    record {
      ends = c.requires.ends;
      digits = c.requires.digits;
      date = (
        v.0.0 ∙ round_trip_16 _ _ y.value below,
        v.0.1 ∙ round_trip_8 _ _ m.value m.bound,
        v.0.2 ∙ round_trip_8 _ _ d.value d.bound,
      );
      time = (
        v.1.0 ∙ round_trip_8 _ _ h.value h.bound,
        v.1.1 ∙ round_trip_8 _ _ k.value k.bound,
        v.1.2 ∙ round_trip_8 _ _ s.value s.bound,
        v.1.3,
      );
    }

pub returns-in-Err : goal.returns-in-Err
returns-in-Err c =
    λ local x.
    let y = c.year-year.ensures in
    let below = below_10000 (two_at c.args.bytes.now 0) y.bound in
    let m = c.signed_two-month.ensures in
    let d = c.signed_two-day.ensures in
    let h = c.signed_two-hour.ensures in
    let k = c.signed_two-minute.ensures in
    let s = c.second-second.ensures in
    false≢true (c.in-Err.ensures.succeeds.1 (
      parts_of_date _ _ _ local.date (
        x.date.0 ∙ sym (round_trip_16 _ _ y.value below),
        x.date.1 ∙ sym (round_trip_8 _ _ m.value m.bound),
        x.date.2 ∙ sym (round_trip_8 _ _ d.value d.bound),
      ),
      parts_of_time _ _ _ _ local.time (
        x.time.0 ∙ sym (round_trip_8 _ _ h.value h.bound),
        x.time.1 ∙ sym (round_trip_8 _ _ k.value k.bound),
        x.time.2 ∙ sym (round_trip_8 _ _ s.value s.bound),
        x.time.3,
      ),
    ))
