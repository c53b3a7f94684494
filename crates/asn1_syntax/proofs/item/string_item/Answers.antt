use Rattle.std.proofs.Common.{sym}
use Rattle.asn1_syntax.proofs.Items.{string_item}
use Rattle.asn1_syntax.proofs.item.string_item.Goals as goal

pub returns-in-Some : goal.returns-in-Some
returns-in-Some c = string_item _ _ (sym c.in-Some.ensures)
