use Rattle.std.proofs.Common.{arith}
use Rattle.yasna_base.specs.Octets.{IsDeepOctets, octets_segmentation}
use Rattle.yasna_base.specs.Text.{IsStringOf, IsUtf8In, InUtf8, characters, utf8_tag}
use Rattle.yasna_base.proofs.Segmented.{deep_begins}
use Rattle.yasna_base.proofs.Identifier.{not_end}
use Rattle.yasna_notation.proofs.OneTag.{allocating_read}
use Rattle.yasna_notation.proofs.strings.StringNotation.read.Goals as goal

pub returns : goal.returns
returns c =
    allocating_read (IsStringOf (IsUtf8In InUtf8)) characters IsDeepOctets utf8_tag (not_end 12 (λ e. omega arith))
    (λ t n m s. deep_begins octets_segmentation n m t s) c.args.reader.now
    c.read_utf8string.result c.read_utf8string.new.self c.read_utf8string.ensures
