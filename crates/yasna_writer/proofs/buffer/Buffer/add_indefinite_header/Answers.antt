use Rattle.std.proofs.Common.{arith}
use Rattle.yasna_writer.proofs.Buffers.{slots_more}
use Rattle.yasna_writer.proofs.buffer.Buffer.add_indefinite_header.Goals as goal

pub invariant_of-self : goal.invariant_of-self
invariant_of-self c = slots_more _ _ _ _ _ _ c.self.invariant (omega (arith, c.reserve_and_push_indefinite_header.ensures.grows))
