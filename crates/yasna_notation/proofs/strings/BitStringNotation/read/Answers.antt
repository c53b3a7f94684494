use Rattle.std.proofs.Common.{arith}
use Rattle.yasna_base.specs.Bits.{IsBits, IsDeepBits, bits_segmentation, bits_tag}
use Rattle.yasna_base.proofs.Segmented.{deep_begins}
use Rattle.yasna_bytes.specs.Segments.{bits_in}
use Rattle.yasna_base.proofs.Identifier.{not_end}
use Rattle.yasna_notation.proofs.OneTag.{allocating_read}
use Rattle.yasna_notation.proofs.strings.BitStringNotation.read.Goals as goal

pub returns : goal.returns
returns c =
    allocating_read (IsBits) bits_in IsDeepBits bits_tag (not_end 3 (λ e. omega arith)) (λ t n m s. deep_begins bits_segmentation n m t s) c.args.reader.now
    c.read_bitvec_bytes.result c.read_bitvec_bytes.new.self c.read_bitvec_bytes.ensures
