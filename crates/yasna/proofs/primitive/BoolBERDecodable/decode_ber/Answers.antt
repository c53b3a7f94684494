use Rattle.std.proofs.Common.{arith}
use Rattle.yasna_base.specs.Element.{Primitively}
use Rattle.yasna_base.specs.Boolean.{IsBoolean}
use Rattle.yasna_reader.proofs.Primitives.{leaf_decodes}
use Rattle.yasna_reader.proofs.Sticky.{seen_repeats_error}
use Rattle.yasna.proofs.primitive.BoolBERDecodable.decode_ber.Goals as goal

pub returns-clause-decodes : goal.returns-clause-decodes
returns-clause-decodes c = leaf_decodes (Primitively IsBoolean) 1 (λ e. omega arith) c.args.reader.now c.read_bool.result c.read_bool.new.self c.requires
    c.read_bool.ensures

pub returns-clause-failed : goal.returns-clause-failed
returns-clause-failed c = seen_repeats_error c.read_bool.ensures
