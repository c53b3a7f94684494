use Rattle.std.proofs.Common.{arith}
use Rattle.std.specs.Int.{w64}
use Rattle.yasna_base.specs.Integer.{IsSigned}
use Rattle.yasna_base.specs.Enumerated.{enumerated_tag}
use Rattle.yasna_base.specs.Element.{Primitively}
use Rattle.yasna_base.proofs.Identifier.{not_end}
use Rattle.yasna_notation.proofs.OneTag.{leaf_read}
use Rattle.yasna_notation.proofs.simple.EnumeratedNotation.read.Goals as goal

pub returns : goal.returns
returns c =
    leaf_read (Primitively (IsSigned w64)) enumerated_tag (not_end 10 (λ e. omega arith)) c.args.reader.now
    c.read_enum.result c.read_enum.new.self c.read_enum.ensures
