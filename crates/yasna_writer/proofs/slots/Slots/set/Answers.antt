use Rattle.std.proofs.Common.{◌≡◌, ◌++◌, ap, ◌∙◌, sym, length, drop, arith}
use Rattle.std.specs.Prelude.{set}
use Rattle.std.specs.Vec.{with_items}
use Rattle.std.proofs.lemmas.List.{set-append_left, set-append_right, take_at}
use Rattle.yasna_writer.specs.Slots.{in_blocks}
use Rattle.yasna_writer.proofs.Buffers.{slot_set}
use Rattle.yasna_writer.proofs.slots.Slots.set.Goals as goal

pub returns-in-Some : goal.returns-in-Some
returns-in-Some c =
    let s = c.self.inside in
    let e = c.in-Some.ensures {u = tt} in
    ap (λ z. in_blocks s.full.items ++ z) (slot_set s.last c.deref_mut.result.now c.in-Some.place c.args.slot c.deref_mut.ensures.value)
    ∙ ap (λ n. in_blocks s.full.items ++ set s.last.items n c.args.slot) e.1
    ∙ sym (set-append_right (in_blocks s.full.items) s.last.items s.before c.args.index c.args.slot (sym c.self.invariant.counted) e.0)
    ∙ ap (λ z. set z c.args.index c.args.slot) c.self.view_is

pub returns-in-None : goal.returns-in-None
returns-in-None c =
    let s = c.self.inside in
    let new = c.set_in.new.full in
    let long : length new ≡ s.full.len = omega (arith, c.set_in.ensures.len, ap length c.deref_mut-in-None.ensures.value, s.full.ok.0) in
    let same : (with_items s.full new).items ≡ new = take_at new (drop (length new) s.full.items) s.full.len long in
    ap (λ z. in_blocks z ++ s.last.items) same
    ∙ ap (λ z. z ++ s.last.items) c.set_in.ensures.put
    ∙ ap (λ z. set (in_blocks z) c.args.index c.args.slot ++ s.last.items) c.deref_mut-in-None.ensures.value
    ∙ sym (set-append_left (in_blocks s.full.items) s.last.items c.args.index c.args.slot
    (omega (arith, c.self.invariant.counted, c.in-None.ensures {u = tt})))
    ∙ ap (λ z. set z c.args.index c.args.slot) c.self.view_is
