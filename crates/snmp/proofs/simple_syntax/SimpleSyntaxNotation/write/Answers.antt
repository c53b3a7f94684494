use Rattle.yasna_notation.proofs.Chosen.{can_as, written_as}
use Rattle.snmp.specs.contracts.simple_syntax.SimpleSyntaxNotation.TheImpl.{ghosts as choice}
use Rattle.snmp.proofs.simple_syntax.SimpleSyntaxNotation.write.Goals as goal

pub write-requires : goal.write-requires
write-requires c = can_as choice.means c.in-IntegerValue.is c.requires

pub returns-in-IntegerValue : goal.returns-in-IntegerValue
returns-in-IntegerValue c = written_as choice.means c.in-IntegerValue.is c.args.writer.now _ _ c.write.ensures

pub write-requires-in-StringValue : goal.write-requires-in-StringValue
write-requires-in-StringValue c = can_as choice.means c.in-StringValue.is c.requires

pub returns-in-StringValue : goal.returns-in-StringValue
returns-in-StringValue c = written_as choice.means c.in-StringValue.is c.args.writer.now _ _ c.write-in-StringValue.ensures

pub write-requires-in-ObjectIdValue : goal.write-requires-in-ObjectIdValue
write-requires-in-ObjectIdValue c = can_as choice.means c.in-ObjectIdValue.is c.requires

pub returns-in-ObjectIdValue : goal.returns-in-ObjectIdValue
returns-in-ObjectIdValue c = written_as choice.means c.in-ObjectIdValue.is c.args.writer.now _ _ c.write-in-ObjectIdValue.ensures
