use Rattle.std.proofs.Common.{length, ap, arith}
use Rattle.yasna_writer.proofs.Buffers.{slots_length}
use Rattle.yasna_writer.proofs.buffer.Buffer.len.Goals as goal

pub returns : goal.returns
returns c =
    let d = c.self.inside in
    omega (
      arith,
      c.len.ensures,
      ap length c.self.view_is,
      slots_length d.large.items d.slots d.contents.items d.headers d.waits c.self.invariant,
    )
