use Rattle.std.proofs.Common.{arith}
use Rattle.yasna_base.specs.Boolean.{IsBoolean, boolean_tag}
use Rattle.yasna_base.specs.Element.{Primitively}
use Rattle.yasna_base.proofs.Identifier.{not_end}
use Rattle.yasna_notation.proofs.OneTag.{leaf_read}
use Rattle.yasna_notation.proofs.simple.BoolNotation.read.Goals as goal

pub returns : goal.returns
returns c =
    leaf_read (Primitively IsBoolean) boolean_tag (not_end 1 (λ e. omega arith)) c.args.reader.now
    c.read_bool.result c.read_bool.new.self c.read_bool.ensures
