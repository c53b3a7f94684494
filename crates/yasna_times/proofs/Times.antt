-- What holds of each GeneralizedTime.
use Rattle.std.proofs.Common.{◌≤◌, ◌<◌, ◌++◌, ℕ, Bool, true, false, if◌then◌else◌, arith}
use Rattle.yasna_times.specs.declared.models.generalized_time.GeneralizedTime.{GeneralizedTime}
use Rattle.yasna_times.specs.Fraction.{nine_digits}
use Rattle.yasna_times.specs.GeneralizedTime.{IsGeneralMoment}
use Rattle.yasna_times.specs.Models.{moment_of}
use Rattle.yasna_times.proofs.Fraction.{digits_append, nine_are_digits, trimmed_digits, is_trimmed}

shown_second : (leap : Bool) (second : ℕ) → second < 60 → (if leap then 60 else second) ≤ 60
shown_second true second h = omega arith
shown_second false second h = omega arith

-- its moment has a text
pub general_moment : (t : GeneralizedTime) → IsGeneralMoment (moment_of t)
general_moment t =
    let nine = nine_digits t.datetime.time.subsec_nanosecond in
    record {
      in_years = t.in_years;
      hour = t.datetime.time.hour_in;
      minute = t.datetime.time.minute_in;
      second = shown_second t.is_leap_second t.datetime.time.second t.datetime.time.second_in;
      digits = trimmed_digits (nine ++ t.sub_nano.items) (digits_append nine t.sub_nano.items (nine_are_digits t.datetime.time.subsec_nanosecond) t.digits);
      trimmed = is_trimmed (nine ++ t.sub_nano.items);
    }
