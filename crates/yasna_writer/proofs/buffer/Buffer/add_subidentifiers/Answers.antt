use Rattle.std.proofs.Common.{arith}
use Rattle.yasna_writer.proofs.Buffers.{slots_more}
use Rattle.yasna_writer.proofs.buffer.Buffer.add_subidentifiers.Goals as goal

pub invariant_of-self : goal.invariant_of-self
invariant_of-self c = slots_more _ _ _ _ _ _ c.self.invariant (omega (arith, c.push_subidentifiers.ensures.grows))
