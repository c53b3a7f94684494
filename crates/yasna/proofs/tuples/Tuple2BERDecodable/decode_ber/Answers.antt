use Rattle.std.proofs.Common.{rules}
use Rattle.yasna.proofs.tuples.Tuple2BERDecodable.decode_ber.Goals as goal

pub returns-in-Ok-clause-decodes : goal.returns-in-Ok-clause-decodes
returns-in-Ok-clause-decodes g c = search rules
