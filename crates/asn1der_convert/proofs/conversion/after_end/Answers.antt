use Rattle.std.proofs.Common.{rules}
use Rattle.asn1der_convert.proofs.conversion.after_end.Goals as goal

pub returns-in-Indefinite : goal.returns-in-Indefinite
returns-in-Indefinite c = search rules
