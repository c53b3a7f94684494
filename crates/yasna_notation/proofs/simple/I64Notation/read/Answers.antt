use Rattle.std.proofs.Common.{arith}
use Rattle.std.specs.Int.{w64}
use Rattle.yasna_base.specs.Integer.{IsSigned, integer_tag}
use Rattle.yasna_base.specs.Element.{Primitively}
use Rattle.yasna_base.proofs.Identifier.{not_end}
use Rattle.yasna_notation.proofs.OneTag.{leaf_read}
use Rattle.yasna_notation.proofs.simple.I64Notation.read.Goals as goal

pub returns : goal.returns
returns c =
    leaf_read (Primitively (IsSigned w64)) integer_tag (not_end 2 (λ e. omega arith)) c.args.reader.now
    c.read_i64.result c.read_i64.new.self c.read_i64.ensures
