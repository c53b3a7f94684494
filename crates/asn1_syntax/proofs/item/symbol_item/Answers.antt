use Rattle.std.proofs.Common.{sym}
use Rattle.asn1_syntax.proofs.Items.{symbol_item}
use Rattle.asn1_syntax.proofs.item.symbol_item.Goals as goal

pub returns-in-Some-clause-ok : goal.returns-in-Some-clause-ok
returns-in-Some-clause-ok c = symbol_item _ _ (sym c.in-Some.ensures)
