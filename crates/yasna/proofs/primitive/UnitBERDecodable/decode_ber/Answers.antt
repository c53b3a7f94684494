use Rattle.std.proofs.Common.{arith}
use Rattle.yasna_base.specs.Element.{Primitively}
use Rattle.yasna_base.specs.Null.{IsNull}
use Rattle.yasna_reader.proofs.Primitives.{leaf_decodes}
use Rattle.yasna_reader.proofs.Sticky.{seen_repeats_error}
use Rattle.yasna.proofs.primitive.UnitBERDecodable.decode_ber.Goals as goal

pub returns-clause-decodes : goal.returns-clause-decodes
returns-clause-decodes c = leaf_decodes (Primitively IsNull) 5 (λ e. omega arith) c.args.reader.now c.read_null.result c.read_null.new.self c.requires
    c.read_null.ensures

pub returns-clause-failed : goal.returns-clause-failed
returns-clause-failed c = seen_repeats_error c.read_null.ensures
