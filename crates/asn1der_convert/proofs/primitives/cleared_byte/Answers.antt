use Rattle.std.proofs.Common.{rules}
use Rattle.asn1der_convert.proofs.primitives.cleared_byte.Goals as goal

pub returns : goal.returns
returns c = search rules
