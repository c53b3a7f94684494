use Rattle.std.proofs.Common.{◌≡◌, ◌∙◌, ◌++◌, [], ◌∷◌, ap, sym, subst, append_assoc}
use Rattle.yasna_times.specs.GeneralizedTime.{IsGeneralText, clock_digits, point_digits}
use Rattle.yasna_times.specs.Fraction.{nine_digits, trimmed}
use Rattle.yasna_times.specs.Models.{moment_of}
use Rattle.yasna_times.proofs.GeneralText.{general_text_spells}
use Rattle.yasna_times.proofs.Times.{general_moment}
use Rattle.yasna_times.proofs.models.generalized_time.GeneralizedTime.to_bytes.Goals as goal

pub returns-clause-text : goal.returns-clause-text
returns-clause-text c =
    let t = c.args.self.now in
    let m = moment_of t in
    let first = c.shown-first.result.now in
    let nine = nine_digits t.datetime.time.subsec_nanosecond in
    let sub_nano = c.as_slice-2.ensures.value in
    let digits : first ++ c.as_slice-4.result.now ≡ m.fraction =
    ap (λ x. first ++ x) (c.as_slice-4.ensures.value ∙ sym sub_nano) ∙ c.shown-first.ensures.all
    ∙ ap (λ x. trimmed (x ++ c.as_slice-2.result.now)) (c.as_slice.ensures ∙ c.nine-nine.ensures) ∙ ap (λ x. trimmed (nine ++ x)) sub_nano in
    let clock : c.extend_from_slice.new.self.items ≡ clock_digits m =
    c.in_ok-extend_from_slice.ensures.items ∙ ap (λ x. x ++ c.as_slice-3.result.now) c.in_ok-text.ensures.items ∙ c.as_slice-3.ensures ∙ c.clock.ensures in
    let prefix : c.push_fraction.new.text.items ≡ clock_digits m ++ point_digits m.fraction =
    c.in_ok-push_fraction.ensures ∙ ap (λ x. x ++ point_digits (first ++ c.as_slice-4.result.now)) clock ∙ ap (λ x. clock_digits m ++ point_digits x) digits in
    c.in_ok-push.ensures.items ∙ ap (λ x. x ++ 90 ∷ []) prefix ∙ append_assoc (clock_digits m) (point_digits m.fraction) (90 ∷ [])

pub returns-clause-spells : goal.returns-clause-spells
returns-clause-spells c =
    let t = c.args.self.now in
    λ given. subst (λ s. IsGeneralText s given (moment_of t)) (sym (returns-clause-text c)) (general_text_spells (moment_of t) (general_moment t) given)
