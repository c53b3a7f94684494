use Rattle.std.proofs.Common.{arith}
use Rattle.yasna_base.specs.Octets.{IsOctets, IsDeepOctets, octets_segmentation, octets_tag}
use Rattle.yasna_base.proofs.Segmented.{deep_begins}
use Rattle.yasna_notation.specs.Laws.{octets_of}
use Rattle.yasna_base.proofs.Identifier.{not_end}
use Rattle.yasna_notation.proofs.OneTag.{allocating_read}
use Rattle.yasna_notation.proofs.strings.VecU8Notation.read.Goals as goal

pub returns : goal.returns
returns c =
    allocating_read (IsOctets) octets_of IsDeepOctets octets_tag (not_end 4 (λ e. omega arith))
    (λ t n m s. deep_begins octets_segmentation n m t s) c.args.reader.now
    c.read_bytes.result c.read_bytes.new.self c.read_bytes.ensures
