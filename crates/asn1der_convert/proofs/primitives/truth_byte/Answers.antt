use Rattle.std.proofs.Common.{rules}
use Rattle.asn1der_convert.proofs.primitives.truth_byte.Goals as goal

pub returns-then-truth : goal.returns-then-truth
returns-then-truth c = search rules
