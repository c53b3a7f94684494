use Rattle.yasna_notation.proofs.Chosen.{can_as, prepended_as}
use Rattle.snmp.specs.contracts.simple_syntax.SimpleSyntaxNotation.TheImpl.{ghosts as choice}
use Rattle.snmp.proofs.simple_syntax.SimpleSyntaxNotation.prepend.Goals as goal

pub prepend-requires : goal.prepend-requires
prepend-requires c = can_as choice.means c.in-IntegerValue.is c.requires

pub returns-in-IntegerValue : goal.returns-in-IntegerValue
returns-in-IntegerValue c = prepended_as choice.means c.in-IntegerValue.is c.args.under c.args.out.now _ _ c.prepend.ensures

pub prepend-requires-in-StringValue : goal.prepend-requires-in-StringValue
prepend-requires-in-StringValue c = can_as choice.means c.in-StringValue.is c.requires

pub returns-in-StringValue : goal.returns-in-StringValue
returns-in-StringValue c = prepended_as choice.means c.in-StringValue.is c.args.under c.args.out.now _ _ c.prepend-in-StringValue.ensures

pub prepend-requires-in-ObjectIdValue : goal.prepend-requires-in-ObjectIdValue
prepend-requires-in-ObjectIdValue c = can_as choice.means c.in-ObjectIdValue.is c.requires

pub returns-in-ObjectIdValue : goal.returns-in-ObjectIdValue
returns-in-ObjectIdValue c = prepended_as choice.means c.in-ObjectIdValue.is c.args.under c.args.out.now _ _ c.prepend-in-ObjectIdValue.ensures
