use Rattle.std.proofs.Common.{rules}
use Rattle.yasna.proofs.shapes.RefEncodeShape.encode_shape.Goals as goal

pub returns : goal.returns
returns g c = search rules
