use Rattle.yasna_notation.proofs.Chosen.{can_as, known_as}
use Rattle.snmp.specs.contracts.v2c.bound_value.BoundValueNotation.TheImpl.{ghosts as choice}
use Rattle.snmp.proofs.v2c.bound_value.BoundValueNotation.encoded_len.Goals as goal

pub encoded_len-requires : goal.encoded_len-requires
encoded_len-requires c = can_as choice.means c.in-Simple.is c.requires

pub returns-in-Simple : goal.returns-in-Simple
returns-in-Simple c = known_as choice.means c.in-Simple.is c.args.under c.args.mode _ c.encoded_len.ensures

pub encoded_len-requires-in-ApplicationWide : goal.encoded_len-requires-in-ApplicationWide
encoded_len-requires-in-ApplicationWide c = can_as choice.means c.in-ApplicationWide.is c.requires

pub returns-in-ApplicationWide : goal.returns-in-ApplicationWide
returns-in-ApplicationWide c = known_as choice.means c.in-ApplicationWide.is c.args.under c.args.mode _ c.encoded_len-in-ApplicationWide.ensures

pub encoded_len-requires-in-Unspecified : goal.encoded_len-requires-in-Unspecified
encoded_len-requires-in-Unspecified c = can_as choice.means c.in-Unspecified.is c.requires

pub returns-in-Unspecified : goal.returns-in-Unspecified
returns-in-Unspecified c = known_as choice.means c.in-Unspecified.is c.args.under c.args.mode _ c.encoded_len-in-Unspecified.ensures

pub encoded_len-requires-in-NoSuchObject : goal.encoded_len-requires-in-NoSuchObject
encoded_len-requires-in-NoSuchObject c = can_as choice.means c.in-NoSuchObject.is c.requires

pub returns-in-NoSuchObject : goal.returns-in-NoSuchObject
returns-in-NoSuchObject c = known_as choice.means c.in-NoSuchObject.is c.args.under c.args.mode _ c.encoded_len-in-NoSuchObject.ensures

pub encoded_len-requires-in-NoSuchInstance : goal.encoded_len-requires-in-NoSuchInstance
encoded_len-requires-in-NoSuchInstance c = can_as choice.means c.in-NoSuchInstance.is c.requires

pub returns-in-NoSuchInstance : goal.returns-in-NoSuchInstance
returns-in-NoSuchInstance c = known_as choice.means c.in-NoSuchInstance.is c.args.under c.args.mode _ c.encoded_len-in-NoSuchInstance.ensures

pub encoded_len-requires-in-EndOfMibView : goal.encoded_len-requires-in-EndOfMibView
encoded_len-requires-in-EndOfMibView c = can_as choice.means c.in-EndOfMibView.is c.requires

pub returns-in-EndOfMibView : goal.returns-in-EndOfMibView
returns-in-EndOfMibView c = known_as choice.means c.in-EndOfMibView.is c.args.under c.args.mode _ c.encoded_len-in-EndOfMibView.ensures
