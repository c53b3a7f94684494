use Rattle.std.proofs.Common.{arith}
use Rattle.yasna_base.specs.Null.{IsNull, null_tag}
use Rattle.yasna_base.specs.Element.{Primitively}
use Rattle.yasna_base.proofs.Identifier.{not_end}
use Rattle.yasna_notation.proofs.OneTag.{leaf_read}
use Rattle.yasna_notation.proofs.simple.UnitNotation.read.Goals as goal

pub returns : goal.returns
returns c =
    leaf_read (Primitively IsNull) null_tag (not_end 5 (λ e. omega arith)) c.args.reader.now
    c.read_null.result c.read_null.new.self c.read_null.ensures
