use Rattle.std.proofs.Common.{◌≡◌, ◌∙◌, ◌++◌, [], ◌∷◌, List, ℕ, ap, sym}
use Rattle.yasna_times.specs.Fraction.{nine_digits, trimmed}
use Rattle.yasna_times.specs.GeneralizedTime.{clock_digits, point_digits}
use Rattle.yasna_times.specs.Models.{moment_of}
use Rattle.yasna_base.proofs.Lists.{append_same}
use Rattle.yasna_times.proofs.models.generalized_time.GeneralizedTime.is_canonical.Goals as goal

pub returns-in_default : goal.returns-in_default
returns-in_default c =
    let m = moment_of c.args.self.now in
    let tail : List ℕ = point_digits m.fraction ++ 90 ∷ [] in
    let clock : c.as_slice-3.result.now ≡ clock_digits m = c.as_slice-3.ensures ∙ c.clock.ensures in
    (λ f. absurd cc, λ e. absurd (c.in_default.ensures tail (e ∙ ap (λ x. x ++ tail) (sym clock))))

pub returns : goal.returns
returns c =
    let t = c.args.self.now in
    let m = moment_of t in
    let first = c.shown-first.result.now in
    let nine = nine_digits t.datetime.time.subsec_nanosecond in
    let sub_nano = c.as_slice-2.ensures.value in
    let digits : first ++ c.as_slice-4.result.now ≡ m.fraction =
    ap (λ x. first ++ x) (c.as_slice-4.ensures.value ∙ sym sub_nano) ∙ c.shown-first.ensures.all
    ∙ ap (λ x. trimmed (x ++ c.as_slice-2.result.now)) (c.as_slice.ensures ∙ c.nine-nine.ensures) ∙ ap (λ x. trimmed (nine ++ x)) sub_nano in
    let clock : c.as_slice-3.result.now ≡ clock_digits m = c.as_slice-3.ensures ∙ c.clock.ensures in
    let fraction : List ℕ = c.in-Some.fraction.now in
    let zone : List ℕ = c.in-Some-after_fraction.zone.now in
    let whole : c.args.bytes.now ≡ clock_digits m ++ (point_digits m.fraction ++ zone) =
    c.in-Some.ensures ∙ ap (λ x. x ++ fraction) clock
    ∙ ap (λ x. clock_digits m ++ x) (c.in-Some-after_fraction.ensures ∙ ap (λ x. point_digits x ++ zone) digits) in
    let prefix : List ℕ = point_digits m.fraction in (
      λ h. whole ∙ ap (λ x. clock_digits m ++ (prefix ++ x)) (c.is_same.ensures.0 h ∙ c.as_slice-5.ensures),
      λ e. c.is_same.ensures.1
          (append_same prefix zone (90 ∷ []) (append_same (clock_digits m) (prefix ++ zone) (prefix ++ 90 ∷ []) (sym whole ∙ e)) ∙ sym c.as_slice-5.ensures),
    )
