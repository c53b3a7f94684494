use Rattle.std.proofs.Common.{arith, ◌∷◌, inl, inr, ap, sym, ◌∙◌}
use Rattle.std.specs.Char.Utf16.{utf16_lossy_chars}
use Rattle.yasna_base.specs.Text.{units}
use Rattle.yasna_bytes.proofs.Text.{spelled_itself}
use Rattle.yasna_bytes.proofs.bytes.text.character_of.Goals as goal

pub returns-in-Some-clause-spelled : goal.returns-in-Some-clause-spelled
returns-in-Some-clause-spelled c =
    let us = units c.args.trailing.now in
    let made = c.in-Some.ensures {u = tt} in
    spelled_itself c.args.unit us (elim made.cases [
      | inl below ↦ inl (omega (arith, below, c.from.ensures))
      | inr from ↦ inr (omega (arith, from.0, c.from.ensures))
    ]) ∙ ap (λ x. x ∷ utf16_lossy_chars us) (sym (made.value.1 ∙ c.from.ensures))
