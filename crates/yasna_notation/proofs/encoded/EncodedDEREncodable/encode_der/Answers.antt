use Rattle.std.proofs.Common.{rules}
use Rattle.yasna_notation.proofs.encoded.EncodedDEREncodable.encode_der.Goals as goal

pub returns : goal.returns
returns g c = search rules
