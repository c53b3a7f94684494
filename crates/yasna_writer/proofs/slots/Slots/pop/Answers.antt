use Rattle.std.proofs.Common.{◌≡◌, ◌∙◌, length, ap, sym, subst, inl, inr, arith}
use Rattle.std.specs.Prelude.{IsSome}
use Rattle.std.proofs.lemmas.Bool.{cases_lt}
use Rattle.yasna_writer.proofs.Blocks.{popped, popped_view}
use Rattle.yasna_writer.proofs.slots.Slots.pop.Goals as goal

pub invariant_of-self-2 : goal.invariant_of-self-2
invariant_of-self-2 c =
    let s = c.self.inside in
    popped s.full.items c.pop-2.new.self.items c.in_ok-pop.field-0 s.before s.last.items c.pop-3.new.self.items c.self.invariant
    (c.in_ok-pop.ensures {u = tt}).items

pub returns : goal.returns
returns c =
    let s = c.self.inside in
    let none : length s.last.items ≡ 0 = elim (cases_lt 0 (length s.last.items)) [
      | inl h ↦ absurd (cc (subst IsSome c.in_default.is (c.pop.ensures.variant.1 h)))
      | inr h ↦ omega arith
    ] in
    let same : length c.from_vec.result.items ≡ length c.in_ok-pop.field-0.items = ap length c.from_vec.ensures.items in
    popped_view s.full.items c.pop-2.new.self.items c.in_ok-pop.field-0 s.last.items c.pop-3.new.self.items c.args.self.now c.pop-3.result
    c.self.invariant.whole (c.in_ok-pop.ensures {u = tt}).items (sym c.from_vec.ensures.items ∙ c.pop-3.ensures.items)
    (λ h. c.pop-3.ensures.variant.1 (omega (arith, h, same))) none c.self.view_is
