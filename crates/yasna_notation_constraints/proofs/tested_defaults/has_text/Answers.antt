use Rattle.std.proofs.Common.{◌≡◌, ℕ, List, subst, ◌∙◌}
use Rattle.std.specs.Str.{bytes_eq, chars}
use Rattle.yasna_notation_constraints.proofs.TestedTexts.{same_text}
use Rattle.yasna_notation_constraints.proofs.tested_defaults.has_text.Goals as goal

pub returns : goal.returns
returns c =
    subst (λ (z : List ℕ). c.eq.result ≡ bytes_eq (chars z) (chars c.args.text.now)) c.as_str.ensures.value
    (c.eq.ensures ∙ same_text c.as_str.result.now c.args.text.now c.as_str.utf8 c.utf8.text)
