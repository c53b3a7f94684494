use Rattle.std.proofs.Common.{rules}
use Rattle.yasna.proofs.tuples.Tuple2DEREncodable.encode_der.Goals as goal

pub returns : goal.returns
returns g c = search rules
