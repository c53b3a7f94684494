use Rattle.std.proofs.Common.{arith}
use Rattle.std.specs.Int.{w16}
use Rattle.yasna_base.specs.Element.{Primitively}
use Rattle.yasna_base.specs.Integer.{IsSigned}
use Rattle.yasna_reader.proofs.Primitives.{leaf_decodes}
use Rattle.yasna_reader.proofs.Sticky.{seen_repeats_error}
use Rattle.yasna.proofs.primitive.I16BERDecodable.decode_ber.Goals as goal

pub returns-clause-decodes : goal.returns-clause-decodes
returns-clause-decodes c = leaf_decodes (Primitively (IsSigned w16)) 2 (λ e. omega arith) c.args.reader.now c.read_i16.result c.read_i16.new.self
    c.requires c.read_i16.ensures

pub returns-clause-failed : goal.returns-clause-failed
returns-clause-failed c = seen_repeats_error c.read_i16.ensures
