use Rattle.std.proofs.Common.{rules}
use Rattle.yasna.proofs.primitive.I64DEREncodable.encode_der.Goals as goal

pub returns : goal.returns
returns c = search rules
