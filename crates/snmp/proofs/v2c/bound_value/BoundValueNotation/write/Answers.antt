use Rattle.yasna_notation.proofs.Chosen.{can_as, written_as}
use Rattle.snmp.specs.contracts.v2c.bound_value.BoundValueNotation.TheImpl.{ghosts as choice}
use Rattle.snmp.proofs.v2c.bound_value.BoundValueNotation.write.Goals as goal

pub write-requires : goal.write-requires
write-requires c = can_as choice.means c.in-Simple.is c.requires

pub returns-in-Simple : goal.returns-in-Simple
returns-in-Simple c = written_as choice.means c.in-Simple.is c.args.writer.now _ _ c.write.ensures

pub write-requires-in-ApplicationWide : goal.write-requires-in-ApplicationWide
write-requires-in-ApplicationWide c = can_as choice.means c.in-ApplicationWide.is c.requires

pub returns-in-ApplicationWide : goal.returns-in-ApplicationWide
returns-in-ApplicationWide c = written_as choice.means c.in-ApplicationWide.is c.args.writer.now _ _ c.write-in-ApplicationWide.ensures

pub write-requires-in-Unspecified : goal.write-requires-in-Unspecified
write-requires-in-Unspecified c = can_as choice.means c.in-Unspecified.is c.requires

pub returns-in-Unspecified : goal.returns-in-Unspecified
returns-in-Unspecified c = written_as choice.means c.in-Unspecified.is c.args.writer.now _ _ c.write-in-Unspecified.ensures

pub write-requires-in-NoSuchObject : goal.write-requires-in-NoSuchObject
write-requires-in-NoSuchObject c = can_as choice.means c.in-NoSuchObject.is c.requires

pub returns-in-NoSuchObject : goal.returns-in-NoSuchObject
returns-in-NoSuchObject c = written_as choice.means c.in-NoSuchObject.is c.args.writer.now _ _ c.write-in-NoSuchObject.ensures

pub write-requires-in-NoSuchInstance : goal.write-requires-in-NoSuchInstance
write-requires-in-NoSuchInstance c = can_as choice.means c.in-NoSuchInstance.is c.requires

pub returns-in-NoSuchInstance : goal.returns-in-NoSuchInstance
returns-in-NoSuchInstance c = written_as choice.means c.in-NoSuchInstance.is c.args.writer.now _ _ c.write-in-NoSuchInstance.ensures

pub write-requires-in-EndOfMibView : goal.write-requires-in-EndOfMibView
write-requires-in-EndOfMibView c = can_as choice.means c.in-EndOfMibView.is c.requires

pub returns-in-EndOfMibView : goal.returns-in-EndOfMibView
returns-in-EndOfMibView c = written_as choice.means c.in-EndOfMibView.is c.args.writer.now _ _ c.write-in-EndOfMibView.ensures
