use Rattle.std.proofs.Common.{refl, sym, ap, ◌∙◌}
use Rattle.yasna_notation.specs.declared.choices.Either.TheVariants.{Second}
use Rattle.ldap.proofs.FilterWriting.{in_or}
use Rattle.ldap.proofs.filter_reading.from_parts.Goals as goal

pub returns-in-First-others : goal.returns-in-First-others
returns-in-First-others c = in_or _ c.in-First-others.filters refl ∙ (ap (λ o. Second o) (sym c.in-First-others.is) ∙ sym c.in-Second.is)
