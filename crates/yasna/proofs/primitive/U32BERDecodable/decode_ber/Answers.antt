use Rattle.std.proofs.Common.{arith}
use Rattle.yasna_base.specs.Element.{Primitively}
use Rattle.yasna_base.specs.Integer.{IsUnsigned}
use Rattle.yasna_reader.proofs.Primitives.{leaf_decodes}
use Rattle.yasna_reader.proofs.Sticky.{seen_repeats_error}
use Rattle.yasna.proofs.primitive.U32BERDecodable.decode_ber.Goals as goal

pub returns-clause-decodes : goal.returns-clause-decodes
returns-clause-decodes c =
    leaf_decodes (Primitively (IsUnsigned 32)) 2 (λ e. omega arith) c.args.reader.now c.read_u32.result c.read_u32.new.self c.requires c.read_u32.ensures

pub returns-clause-failed : goal.returns-clause-failed
returns-clause-failed c = seen_repeats_error c.read_u32.ensures
