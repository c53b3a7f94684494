use Rattle.std.proofs.Common.{refl}
use Rattle.yasna_base.specs.Bits.{bits_tag}
use Rattle.yasna_base.specs.Coding.{Any}
use Rattle.yasna_base.specs.Identifier.{tag_or}
use Rattle.yasna_bytes.specs.Segments.{bits_in}
use Rattle.yasna_notation_types.specs.LeastBits.{EncodesLeast}
use Rattle.yasna_notation.specs.WithinMode.{WithinMode}
use Rattle.yasna_notation_types.specs.NamedBits.{EncodesBits, ends_well}
use Rattle.yasna_notation_types.proofs.Readings.{reads_map}
use Rattle.yasna_notation_types.proofs.least_bits.LeastBitsNotation.read.Goals as goal

pub returns : goal.returns
returns c =
    reads_map (λ u m n v b. WithinMode ends_well (EncodesBits u) m n (bits_in v) b) (λ u m n v b. EncodesLeast (tag_or u bits_tag) m n (bits_in v) b)
    (λ u. Any (WithinMode ends_well (EncodesBits u))) (λ u m n v b x. record { string = bits_in v; encoded = x.0; same = refl; ends = x.1 })
    c.args.reader.now c.read.result c.read.new.reader c.read.ensures
