use Rattle.std.proofs.Common.{arith}
use Rattle.yasna_base.specs.Octets.{IsDeepOctets, octets_segmentation}
use Rattle.yasna_base.specs.Text.{IsStringOf, IsUtf8In, InNumeric, characters, numeric_tag}
use Rattle.yasna_base.proofs.Segmented.{deep_begins}
use Rattle.yasna_base.proofs.Identifier.{not_end}
use Rattle.yasna_notation.proofs.OneTag.{allocating_read}
use Rattle.yasna_notation.proofs.strings.NumericStringNotation.read.Goals as goal

pub returns : goal.returns
returns c =
    allocating_read (IsStringOf (IsUtf8In InNumeric)) characters IsDeepOctets numeric_tag (not_end 18 (λ e. omega arith))
    (λ t n m s. deep_begins octets_segmentation n m t s) c.args.reader.now
    c.read_numeric_string.result c.read_numeric_string.new.self c.read_numeric_string.ensures
