use Rattle.std.proofs.Common.{ap}
use Rattle.std.proofs.lemmas.Bool.Decides.{Decides-and, Decides-int_eq, Decides-like}
use Rattle.std.specs.Cmp.{booleans_Decides}
use Rattle.std.proofs.lemmas.Slice.Eq.{bytes_eq-Decides}
use Rattle.jiff.proofs.Family.{same_datetime}
use Rattle.jiff.specs.Words.{civil_nanos}
use Rattle.yasna_times.specs.Moment.{moment}
use Rattle.yasna_times.proofs.OneMoment.{same_moment}
use Rattle.yasna_times.proofs.laws.time_orders.Goals as goal

pub returns-clause-utc_equality : goal.returns-clause-utc_equality
returns-clause-utc_equality c =
    λ a b. Decides-like _ (same_datetime a.datetime b.datetime) (ap civil_nanos) (Decides-int_eq (civil_nanos a.datetime) (civil_nanos b.datetime))

pub returns-clause-general_equality : goal.returns-clause-general_equality
returns-clause-general_equality c =
    λ a b.
    let datetime = Decides-int_eq (civil_nanos a.datetime) (civil_nanos b.datetime) in
    let digits = bytes_eq-Decides a.sub_nano.items b.sub_nano.items in
    let flag = booleans_Decides a.is_leap_second b.is_leap_second in
    Decides-like _
    (λ h. λ i. moment (same_datetime a.datetime b.datetime h.0 i) (h.1.0 i) (h.1.1 i))
    (λ e. let same = same_moment a b e in (ap civil_nanos same.datetime, (same.digits, same.flag)))
    (Decides-and _ _ datetime (Decides-and _ _ digits flag))
