use Rattle.std.proofs.Common.{rules}
use Rattle.asn1der_convert.proofs.contents_class.is_string.Goals as goal

pub returns-in_default-2 : goal.returns-in_default-2
returns-in_default-2 c = search rules
