use Rattle.std.proofs.Common.{rules, tests}
use Rattle.asn1_contents.proofs.contents_type.universal_type.Goals as goal

pub returns-in_default : goal.returns-in_default
returns-in_default c = search (rules, tests)
