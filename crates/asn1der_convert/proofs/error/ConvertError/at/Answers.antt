use Rattle.std.proofs.Common.{rules}
use Rattle.asn1der_convert.proofs.error.ConvertError.at.Goals as goal

pub returns-then-eq : goal.returns-then-eq
returns-then-eq c = search rules

pub returns : goal.returns
returns c = search rules
