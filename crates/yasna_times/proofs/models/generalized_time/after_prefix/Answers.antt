use Rattle.std.proofs.Common.{◌≡◌, ◌∙◌, ap, length, take}
use Rattle.std.proofs.Math.Seq.{take-append_seam}
use Rattle.yasna_times.proofs.models.generalized_time.after_prefix.Goals as goal

pub returns-then-not-is_same : goal.returns-then-not-is_same
returns-then-not-is_same c =
    λ r e.
    let prefix = c.args.prefix.now in
    let same : c.split_at.result.0.now ≡ prefix = c.split_at.ensures.front ∙ ap (λ x. take (length prefix) x) e ∙ take-append_seam prefix r in
    let none = c.if-not-is_same.ensures.1 same in
    cc
