use Rattle.std.proofs.Common.{arith, ◌+◌, ◌-◌, ◌*◌, ap, ap₂, sym, ◌∙◌, ◌∷◌, get_or, length, take, drop, inr}
use Rattle.std.specs.Char.Utf16.{utf16_lossy_chars}
use Rattle.yasna_base.specs.Text.{units}
use Rattle.yasna_bytes.proofs.Text.{spelled_unpaired, spelled_pair, units_first, units_none, value_or}
use Rattle.yasna_bytes.proofs.bytes.text.character_of_surrogate.Goals.{in_default, in-len2-up+else-unit-lt56320}
use Rattle.yasna_bytes.proofs.bytes.text.character_of_surrogate.Goals.{else-unit-lt56320-via-then-unit-lt56320+then-partner-ge56320+else-partner-lt57344}
use Rattle.yasna_bytes.proofs.bytes.text.character_of_surrogate.Goals.{else-unit-lt56320-via-then-unit-lt56320+else-partner-ge56320}
use Rattle.yasna_bytes.proofs.bytes.text.character_of_surrogate.Goals.{else-unit-lt56320-via-else-unit-lt56320}
use Rattle.yasna_bytes.proofs.bytes.text.character_of_surrogate.Goals as goal

pub returns-then-partner-lt57344-clause-spelled : goal.returns-then-partner-lt57344-clause-spelled
returns-then-partner-lt57344-clause-spelled c =
    let u = c.args.unit in
    let o = c.args.trailing.now in
    let v = c.unit_of-partner.result in
    let rest = units (take (length o - 2) (drop 2 o)) in
    let from = c.if-partner-ge56320.true in
    let below = c.if-partner-lt57344.true in
    let first = units_first o c.in-len2-up.len_at_least ∙ ap (λ w. w ∷ rest) (sym c.unit_of-partner.ensures) in
    let made = c.unwrap_or.ensures ∙ value_or _ _ _ 65533 c.from_u32.ensures.value (c.from_u32.ensures.succeeds (inr (omega arith, omega arith))) in
    ap (λ us. utf16_lossy_chars (u ∷ us)) first ∙ spelled_pair u v rest (c.requires.0, c.if-unit-lt56320.true, from, below)
    ∙ ap₂ (λ x y. (0x1_0000 + (x - 0xD800) * 0x400 + (y - 0xDC00)) ∷ utf16_lossy_chars rest) (sym c.from.ensures) (sym c.from-then-partner-lt57344.ensures)
    ∙ ap (λ x. x ∷ utf16_lossy_chars rest) (sym made)

pub returns-clause-spelled : goal.returns-clause-spelled
returns-clause-spelled c =
    let u = c.args.unit in
    let o = c.args.trailing.now in
    spelled_unpaired u (units o) c.requires.0 c.requires.1 (λ p. elim c.if-trailing-lt2.branch as (λ _. ⊥) [
      | in_default w ↦ let none = units_none o (omega (arith, w.in_default.len_below)) in omega (arith, p.2, ap (λ us. get_or us 0 0) none)
      | in-len2-up+else-unit-lt56320 w ↦
          let first = ap (λ us. get_or us 0 0) (units_first o w.in-len2-up.len_at_least) in
          elim w.else-unit-lt56320.branch as (λ _. ⊥) [
            | else-unit-lt56320-via-then-unit-lt56320+then-partner-ge56320+else-partner-lt57344 x ↦
                omega (arith, p.3, first, w.unit_of-partner.ensures, x.if-partner-lt57344.false)
            | else-unit-lt56320-via-then-unit-lt56320+else-partner-ge56320 x ↦
                omega (arith, p.2, first, w.unit_of-partner.ensures, x.if-partner-ge56320.false)
            | else-unit-lt56320-via-else-unit-lt56320 x ↦ omega (arith, p.1, x.if-unit-lt56320.false)
          ]
    ])
