use Rattle.std.proofs.Common.{sym, ◌∙◌, subst}
use Rattle.jiff.proofs.Family.{same_datetime}
use Rattle.yasna_times.specs.UtcTime.{IsUtcDateTime}
use Rattle.yasna_times.proofs.models.utc_time.UTCTime.from_datetime_opt.Goals as goal

pub returns-then-not-is_utc_datetime : goal.returns-then-not-is_utc_datetime
returns-then-not-is_utc_datetime c =
    λ h.
    let e = same_datetime h.0 c.in-Some.datetime (h.1.1 ∙ sym c.in-Some.ensures) in
    let none = c.if-not-is_utc_datetime.ensures.1 (subst IsUtcDateTime e h.1.0) in
    cc
