use Rattle.std.proofs.Common.{inl, inr}
use Rattle.yasna_times.specs.Zone.{seconds_of}
use Rattle.yasna_times.specs.GeneralizedTime.{IsClockEnd}
use Rattle.yasna_times.proofs.OneLayout.{EndsPart, no_empty_part, no_zone_there, part_found}
use Rattle.yasna_times.proofs.models.generalized_time.layout.Layout.of.Goals as goal
use Rattle.yasna_times.proofs.models.generalized_time.layout.Layout.of.Goals.{else-clock_end-ne10-via-then-clock_end-ne10+then-clock_end-ne12+else-clock_end-ne14}
use Rattle.yasna_times.proofs.models.generalized_time.layout.Layout.of.Goals.{else-clock_end-ne10-via-then-clock_end-ne10+else-clock_end-ne12}
use Rattle.yasna_times.proofs.models.generalized_time.layout.Layout.of.Goals.{else-clock_end-ne10-via-else-clock_end-ne10}

pub returns-then-zone_at-clock_end-clause-exact : goal.returns-then-zone_at-clock_end-clause-exact
returns-then-zone_at-clock_end-clause-exact c =
    let e : EndsPart c.args.bytes.now c.digits_end-clock_end.result c.part_end-zone_at.result =
    record { some = c.part_end-zone_at.ensures.some; none = c.part_end-zone_at.ensures.none } in
    no_empty_part c.args.bytes.now (seconds_of c.args.given) c.digits_end-clock_end.result c.part_end-zone_at.result c.digits_end-clock_end.ensures e
    c.if-zone_at-clock_end.true

pub returns-in_default-clause-exact : goal.returns-in_default-clause-exact
returns-in_default-clause-exact c =
    let e : EndsPart c.args.bytes.now c.digits_end-clock_end.result c.part_end-zone_at.result =
    record { some = c.part_end-zone_at.ensures.some; none = c.part_end-zone_at.ensures.none } in
    no_zone_there c.args.bytes.now (seconds_of c.args.given) c.digits_end-clock_end.result c.part_end-zone_at.result c.digits_end-clock_end.ensures e
    c.in_default.ensures

pub returns-clause-exact : goal.returns-clause-exact
returns-clause-exact c =
    let e : EndsPart c.args.bytes.now c.digits_end-clock_end.result c.part_end-zone_at.result =
    record { some = c.part_end-zone_at.ensures.some; none = c.part_end-zone_at.ensures.none } in
    let ends : IsClockEnd c.digits_end-clock_end.result =
    elim c.else-clock_end-ne10.branch [
      | else-clock_end-ne10-via-then-clock_end-ne10+then-clock_end-ne12+else-clock_end-ne14 w ↦ inr (inr w.if-clock_end-ne14.false)
      | else-clock_end-ne10-via-then-clock_end-ne10+else-clock_end-ne12 w ↦ inr (inl w.if-clock_end-ne12.false)
      | else-clock_end-ne10-via-else-clock_end-ne10 w ↦ inl w.if-clock_end-ne10.false
    ] in
    record {
      ends = ends;
      clock = c.digits_end-clock_end.ensures;
      part = part_found c.args.bytes.now c.digits_end-clock_end.result c.part_end-zone_at.result e c.if-zone_at-clock_end.false;
      at_end = c.in-Some.ensures;
    }
