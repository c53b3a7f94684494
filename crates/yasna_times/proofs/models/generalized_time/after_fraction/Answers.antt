use Rattle.std.proofs.Common.{◌≡◌, ◌∙◌, ◌++◌, ◌∷◌, List, ℕ, ap, sym}
use Rattle.yasna_times.proofs.PointDigits.{length_positive, point_before, digits_after}
use Rattle.yasna_base.proofs.Lists.{append_same}
use Rattle.yasna_times.proofs.models.generalized_time.after_fraction.Goals as goal

pub returns-in_default : goal.returns-in_default
returns-in_default c =
    λ r e.
    let first = c.args.first.now in
    let sub_nano = c.args.sub_nano.now in
    let more = length_positive first c.if-is_empty.ensures in
    c.in_default.ensures ((first ++ sub_nano) ++ r)
    (e ∙ ap (λ x. x ++ r) (point_before first sub_nano more) ∙ ap (λ x. x ++ ((first ++ sub_nano) ++ r)) (sym c.as_slice.ensures))

pub returns-in_default-after_prefix : goal.returns-in_default-after_prefix
returns-in_default-after_prefix c =
    λ r e.
    let first = c.args.first.now in
    let sub_nano = c.args.sub_nano.now in
    let more = length_positive first c.if-is_empty.ensures in
    let digits : List ℕ = c.in-Some.digits.now in
    let point : c.args.bytes.now ≡ 46 ∷ digits = c.in-Some.ensures ∙ ap (λ x. x ++ digits) c.as_slice.ensures in
    c.in_default-after_prefix.ensures (sub_nano ++ r) (digits_after c.args.bytes.now digits first sub_nano r more point e)

pub returns-in-None : goal.returns-in-None
returns-in-None c =
    λ r e.
    let first = c.args.first.now in
    let sub_nano = c.args.sub_nano.now in
    let more = length_positive first c.if-is_empty.ensures in
    let digits : List ℕ = c.in-Some.digits.now in
    let rest : List ℕ = c.in-Some-after_prefix.rest.now in
    let point : c.args.bytes.now ≡ 46 ∷ digits = c.in-Some.ensures ∙ ap (λ x. x ++ digits) c.as_slice.ensures in
    let whole = digits_after c.args.bytes.now digits first sub_nano r more point e in
    c.in-None.ensures r (append_same first rest (sub_nano ++ r) (sym c.in-Some-after_prefix.ensures ∙ whole))
