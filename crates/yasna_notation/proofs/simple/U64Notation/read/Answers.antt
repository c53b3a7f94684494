use Rattle.std.proofs.Common.{arith}
use Rattle.yasna_base.specs.Integer.{IsUnsigned, integer_tag}
use Rattle.yasna_base.specs.Element.{Primitively}
use Rattle.yasna_base.proofs.Identifier.{not_end}
use Rattle.yasna_notation.proofs.OneTag.{leaf_read}
use Rattle.yasna_notation.proofs.simple.U64Notation.read.Goals as goal

pub returns : goal.returns
returns c =
    leaf_read (Primitively (IsUnsigned 64)) integer_tag (not_end 2 (λ e. omega arith)) c.args.reader.now
    c.read_u64.result c.read_u64.new.self c.read_u64.ensures
