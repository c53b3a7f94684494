use Rattle.yasna_notation.proofs.Chosen.{can_as, prepended_as}
use Rattle.snmp.specs.contracts.v2c.bound_value.BoundValueNotation.TheImpl.{ghosts as choice}
use Rattle.snmp.proofs.v2c.bound_value.BoundValueNotation.prepend.Goals as goal

pub prepend-requires : goal.prepend-requires
prepend-requires c = can_as choice.means c.in-Simple.is c.requires

pub returns-in-Simple : goal.returns-in-Simple
returns-in-Simple c = prepended_as choice.means c.in-Simple.is c.args.under c.args.out.now _ _ c.prepend.ensures

pub prepend-requires-in-ApplicationWide : goal.prepend-requires-in-ApplicationWide
prepend-requires-in-ApplicationWide c = can_as choice.means c.in-ApplicationWide.is c.requires

pub returns-in-ApplicationWide : goal.returns-in-ApplicationWide
returns-in-ApplicationWide c = prepended_as choice.means c.in-ApplicationWide.is c.args.under c.args.out.now _ _ c.prepend-in-ApplicationWide.ensures

pub prepend-requires-in-Unspecified : goal.prepend-requires-in-Unspecified
prepend-requires-in-Unspecified c = can_as choice.means c.in-Unspecified.is c.requires

pub returns-in-Unspecified : goal.returns-in-Unspecified
returns-in-Unspecified c = prepended_as choice.means c.in-Unspecified.is c.args.under c.args.out.now _ _ c.prepend-in-Unspecified.ensures

pub prepend-requires-in-NoSuchObject : goal.prepend-requires-in-NoSuchObject
prepend-requires-in-NoSuchObject c = can_as choice.means c.in-NoSuchObject.is c.requires

pub returns-in-NoSuchObject : goal.returns-in-NoSuchObject
returns-in-NoSuchObject c = prepended_as choice.means c.in-NoSuchObject.is c.args.under c.args.out.now _ _ c.prepend-in-NoSuchObject.ensures

pub prepend-requires-in-NoSuchInstance : goal.prepend-requires-in-NoSuchInstance
prepend-requires-in-NoSuchInstance c = can_as choice.means c.in-NoSuchInstance.is c.requires

pub returns-in-NoSuchInstance : goal.returns-in-NoSuchInstance
returns-in-NoSuchInstance c = prepended_as choice.means c.in-NoSuchInstance.is c.args.under c.args.out.now _ _ c.prepend-in-NoSuchInstance.ensures

pub prepend-requires-in-EndOfMibView : goal.prepend-requires-in-EndOfMibView
prepend-requires-in-EndOfMibView c = can_as choice.means c.in-EndOfMibView.is c.requires

pub returns-in-EndOfMibView : goal.returns-in-EndOfMibView
returns-in-EndOfMibView c = prepended_as choice.means c.in-EndOfMibView.is c.args.under c.args.out.now _ _ c.prepend-in-EndOfMibView.ensures
