use Rattle.std.proofs.Common.{rules}
use Rattle.examples_proved.proofs.records.DomainParametersEncodeShape.encode_shape.Goals as goal

pub returns : goal.returns
returns c = search rules
