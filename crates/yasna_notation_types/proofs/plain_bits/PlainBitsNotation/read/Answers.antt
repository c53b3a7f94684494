use Rattle.std.proofs.Common.{arith, refl}
use Rattle.yasna_base.specs.Bits.{IsBits, IsDeepBits, bits_segmentation, bits_tag}
use Rattle.yasna_base.specs.Coding.{Any}
use Rattle.yasna_base.specs.Identifier.{tag_or}
use Rattle.yasna_base.proofs.Identifier.{not_end}
use Rattle.yasna_base.proofs.Segmented.{deep_begins}
use Rattle.yasna_bytes.specs.Segments.{bits_in}
use Rattle.yasna_notation.proofs.OneTag.{allocating_read}
use Rattle.yasna_notation_types.specs.PlainBits.{EncodesUsed}
use Rattle.yasna_notation_types.proofs.Readings.{reads_map}
use Rattle.yasna_notation_types.proofs.plain_bits.PlainBitsNotation.read.Goals as goal

pub returns : goal.returns
returns c =
    let s = c.args.reader.now in
    let r = c.read_bitvec_bytes.result in
    let left = c.read_bitvec_bytes.new.self in
    reads_map (λ u m n v b. IsBits (tag_or u bits_tag) m n (bits_in v) b) (λ u m n v b. EncodesUsed (tag_or u bits_tag) m n (bits_in v) b)
    (λ u. Any (IsBits (tag_or u bits_tag))) (λ u m n v b x. record { string = bits_in v; encoded = x; same = refl }) s r left
    (allocating_read (IsBits) bits_in IsDeepBits bits_tag (not_end 3 (λ e. omega arith)) (λ t n m s. deep_begins bits_segmentation n m t s) s r left
    c.read_bitvec_bytes.ensures)
