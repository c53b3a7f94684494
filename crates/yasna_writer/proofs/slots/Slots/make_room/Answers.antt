use Rattle.std.proofs.Common.{◌+◌, refl, ◌∙◌, arith}
use Rattle.yasna_writer.proofs.Blocks.{begun, begun_view}
use Rattle.yasna_writer.proofs.slots.Slots.make_room.Goals as goal

pub invariant_of-self-2 : goal.invariant_of-self-2
invariant_of-self-2 c =
    let s = c.self.inside in
    begun s.full.items c.put_after.new.full.items s.before (s.before + 4096) s.last.items c.put_after.new.last.items c.put_after.new.last.items
    c.self.invariant (c.in_ok-put_after.ensures {u = tt}) (omega (arith, c.len-length.ensures.value, c.if-length-ne-BLOCK.false)) refl
    (omega (arith, c.if-before.false))

pub returns : goal.returns
returns c =
    let s = c.self.inside in
    begun_view s.full.items c.put_after.new.full.items s.last.items c.put_after.new.last.items (c.in_ok-put_after.ensures {u = tt}) ∙ c.self.view_is
