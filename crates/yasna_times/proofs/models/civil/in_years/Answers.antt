use Rattle.std.proofs.Common.{arith, sym, ◌∙◌, subst}
use Rattle.jiff.proofs.Family.{same_datetime}
use Rattle.jiff.proofs.SpanFacts.{signed_arith}
use Rattle.yasna_times.specs.GeneralizedTime.{IsInYears}
use Rattle.yasna_times.proofs.models.civil.in_years.Goals as goal

pub returns-then-year-lt0 : goal.returns-then-year-lt0
returns-then-year-lt0 c =
    λ h.
    let e = same_datetime h.0 c.in-Some.utc (h.1.1 ∙ sym c.in-Some.ensures) in
    let years = subst IsInYears e h.1.0 in
    omega (arith, signed_arith, years, c.if-year-lt0.true)
