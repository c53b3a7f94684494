use Rattle.yasna_times.proofs.UtcTime.{zone_there, clock_there, has_utc}
use Rattle.yasna_times.proofs.models.utc_time.UTCTime.parse.Goals as goal

pub returns-in_default : goal.returns-in_default
returns-in_default c = λ utc t. c.in_default.ensures t.offset (zone_there _ utc _ c.digits_end-end.ensures t)

pub returns-in_default-clock : goal.returns-in_default-clock
returns-in_default-clock c = λ utc t. c.in_default-clock.ensures t.local (clock_there _ utc _ c.digits_end-end.ensures t)

pub returns-in-None : goal.returns-in-None
returns-in-None c = λ utc t. c.in-None.ensures (has_utc _ utc _ _ _ c.digits_end-end.ensures c.in-Some-clock.ensures c.in-Some.ensures t)
