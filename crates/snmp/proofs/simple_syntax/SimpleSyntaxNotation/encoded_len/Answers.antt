use Rattle.yasna_notation.proofs.Chosen.{can_as, known_as}
use Rattle.snmp.specs.contracts.simple_syntax.SimpleSyntaxNotation.TheImpl.{ghosts as choice}
use Rattle.snmp.proofs.simple_syntax.SimpleSyntaxNotation.encoded_len.Goals as goal

pub encoded_len-requires : goal.encoded_len-requires
encoded_len-requires c = can_as choice.means c.in-IntegerValue.is c.requires

pub returns-in-IntegerValue : goal.returns-in-IntegerValue
returns-in-IntegerValue c = known_as choice.means c.in-IntegerValue.is c.args.under c.args.mode _ c.encoded_len.ensures

pub encoded_len-requires-in-StringValue : goal.encoded_len-requires-in-StringValue
encoded_len-requires-in-StringValue c = can_as choice.means c.in-StringValue.is c.requires

pub returns-in-StringValue : goal.returns-in-StringValue
returns-in-StringValue c = known_as choice.means c.in-StringValue.is c.args.under c.args.mode _ c.encoded_len-in-StringValue.ensures

pub encoded_len-requires-in-ObjectIdValue : goal.encoded_len-requires-in-ObjectIdValue
encoded_len-requires-in-ObjectIdValue c = can_as choice.means c.in-ObjectIdValue.is c.requires

pub returns-in-ObjectIdValue : goal.returns-in-ObjectIdValue
returns-in-ObjectIdValue c = known_as choice.means c.in-ObjectIdValue.is c.args.under c.args.mode _ c.encoded_len-in-ObjectIdValue.ensures
