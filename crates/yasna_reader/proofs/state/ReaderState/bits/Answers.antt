use Rattle.yasna_base.specs.Bits.{IsBits, IsDeepBits}
use Rattle.yasna_bytes.specs.Contents.{MayAllocate}
use Rattle.yasna_bytes.specs.Segments.{bits_in}
use Rattle.yasna_reader.proofs.Primitives.{at_view}
use Rattle.yasna_reader.proofs.state.ReaderState.bits.Goals as goal

pub returns : goal.returns
returns c = at_view IsBits bits_in IsDeepBits MayAllocate c.args.tag c.expected.result _ c.args.self.now c.bit_string.result c.self.view_is c.expected.ensures
    c.bit_string.ensures
