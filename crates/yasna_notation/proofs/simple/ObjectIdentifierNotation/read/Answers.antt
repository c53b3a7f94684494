use Rattle.std.proofs.Common.{arith}
use Rattle.yasna_base.specs.Oid.{AreComponents, oid_tag}
use Rattle.yasna_base.specs.Element.{Primitively}
use Rattle.yasna_reader.specs.Primitive.{NoLevel}
use Rattle.yasna_base.proofs.Identifier.{not_end}
use Rattle.yasna_notation.proofs.OneTag.{allocating_read}
use Rattle.yasna_notation.proofs.simple.ObjectIdentifierNotation.read.Goals as goal

pub returns : goal.returns
returns c =
    allocating_read (Primitively AreComponents) (λ v. v) NoLevel oid_tag (not_end 6 (λ e. omega arith)) (λ t n m s d. d.1) c.args.reader.now
    c.read_oid.result c.read_oid.new.self c.read_oid.ensures
