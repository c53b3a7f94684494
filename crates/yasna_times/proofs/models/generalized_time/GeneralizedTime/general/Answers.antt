use Rattle.std.proofs.Common.{◌∙◌, ◌++◌, ℕ, List, pos, ◌≤ℤ◌, refl, sym, subst}
use Rattle.jiff.specs.Types.{Date}
use Rattle.yasna_times.specs.Fraction.{IsReducedFraction, trimmed, nine_digits}
use Rattle.yasna_times.specs.GeneralizedTime.{IsGeneralText, is_leap, part_digits}
use Rattle.yasna_times.specs.Moment.{moment_at}
use Rattle.yasna_times.specs.Zone.{seconds_of}
use Rattle.yasna_times.proofs.GeneralizedTime.{spells_at, reading_flagged, pos_is}
use Rattle.yasna_times.proofs.Moment.{moment_is}
use Rattle.yasna_times.proofs.models.generalized_time.GeneralizedTime.general.Goals as goal

pub returns-in_default-clause-exact : goal.returns-in_default-clause-exact
returns-in_default-clause-exact c = λ m t. c.in_default.ensures.exact t.end t.zone t.offset t.layout

pub returns-in_default-reading-clause-exact : goal.returns-in_default-reading-clause-exact
returns-in_default-reading-clause-exact c =
    λ m t.
    let s = c.args.bytes.now in
    let l = c.in-Some.layout in
    let f = c.in_ok-fraction.fraction in
    let g : List ℕ = trimmed (nine_digits f.nanosecond ++ f.sub_nano.items) in
    let x₁ = subst (λ (ds : List ℕ). IsReducedFraction c.unit.result ds f.seconds g) c.part-digits.ensures c.in_ok-fraction.ensures.exact in
    let x₂ = subst (λ (u : ℕ). IsReducedFraction u (part_digits s l.clock_end l.zone_at) f.seconds g) c.unit.ensures.value x₁ in
    let r = spells_at s (seconds_of c.args.given) l.clock_end l.zone_at l.offset.seconds f.seconds g m c.in-Some.ensures.exact x₂ t in
    c.in_default-reading.ensures r.utc r.reading

pub invariant_of-result : goal.invariant_of-result
invariant_of-result c =
    let s = c.args.bytes.now in
    let l = c.in-Some.layout in
    let f = c.in_ok-fraction.fraction in
    let a = c.at_nanosecond.ensures in
    let utc = c.in-Some-reading.utc in
    record {
      in_years = subst (λ (d : Date). pos 0 ≤ℤ d.year) (sym a.date) c.in-Some-reading.ensures.in_years;
      digits = c.in_ok-fraction.ensures.digits;
      trimmed = c.in_ok-fraction.ensures.trimmed;
      flagged = λ e. pos_is c.at_nanosecond.result.time.second utc.time.second a.time.2
          ∙ reading_flagged s l.clock_end f.seconds l.offset.seconds utc c.in-Some-reading.ensures (sym c.shows_leap.ensures ∙ e);
    }

pub returns-clause-exact : goal.returns-clause-exact
returns-clause-exact c =
    let s = c.args.bytes.now in
    let l = c.in-Some.layout in
    let f = c.in_ok-fraction.fraction in
    let g : List ℕ = trimmed (nine_digits f.nanosecond ++ f.sub_nano.items) in
    let a = c.at_nanosecond.ensures in
    let utc = c.in-Some-reading.utc in
    let leap = is_leap s l.clock_end in
    let x₁ = subst (λ (ds : List ℕ). IsReducedFraction c.unit.result ds f.seconds g) c.part-digits.ensures c.in_ok-fraction.ensures.exact in
    let x₂ = subst (λ (u : ℕ). IsReducedFraction u (part_digits s l.clock_end l.zone_at) f.seconds g) c.unit.ensures.value x₁ in
    let t : IsGeneralText s (seconds_of c.args.given) (moment_at utc leap g) =
    record {
      end = l.clock_end;
      zone = l.zone_at;
      offset = l.offset.seconds;
      layout = c.in-Some.ensures.exact;
      seconds = f.seconds;
      exact = x₂;
      utc = utc;
      reading = c.in-Some-reading.ensures;
      is = refl;
    } in
    let same = moment_is utc c.at_nanosecond.result f.nanosecond f.sub_nano.items leap c.shows_leap.result a.date a.time c.shows_leap.ensures in
    subst (IsGeneralText s (seconds_of c.args.given)) (sym same) t
