use Rattle.std.proofs.Common.{arith}
use Rattle.yasna_base.specs.Element.{Primitively}
use Rattle.yasna_base.specs.Oid.{AreComponents}
use Rattle.yasna_reader.specs.Primitive.{NoLevel}
use Rattle.yasna_reader.proofs.Primitives.{allocating_decodes}
use Rattle.yasna_reader.proofs.Sticky.{seen_repeats_error}
use Rattle.yasna.proofs.oid.ObjectIdentifierBERDecodable.decode_ber.Goals as goal

pub returns-clause-decodes : goal.returns-clause-decodes
returns-clause-decodes c =
    allocating_decodes (Primitively AreComponents) (λ v. v) NoLevel 6 (λ e. omega arith) (λ n m s d. d.1) c.args.reader.now c.read_oid.result
    c.read_oid.new.self c.requires c.read_oid.ensures

pub returns-clause-failed : goal.returns-clause-failed
returns-clause-failed c = seen_repeats_error c.read_oid.ensures
