use Rattle.yasna_notation.proofs.Chosen.{can_as, written_as}
use Rattle.ldap.specs.contracts.substring.SubstringNotation.TheImpl.{ghosts as choice}
use Rattle.ldap.proofs.substring.SubstringNotation.write.Goals as goal

pub write-requires : goal.write-requires
write-requires c = can_as choice.means c.in-Initial.is c.requires

pub returns-in-Initial : goal.returns-in-Initial
returns-in-Initial c = written_as choice.means c.in-Initial.is c.args.writer.now _ _ c.write.ensures

pub write-requires-in-Any : goal.write-requires-in-Any
write-requires-in-Any c = can_as choice.means c.in-Any.is c.requires

pub returns-in-Any : goal.returns-in-Any
returns-in-Any c = written_as choice.means c.in-Any.is c.args.writer.now _ _ c.write-in-Any.ensures

pub write-requires-in-Final : goal.write-requires-in-Final
write-requires-in-Final c = can_as choice.means c.in-Final.is c.requires

pub returns-in-Final : goal.returns-in-Final
returns-in-Final c = written_as choice.means c.in-Final.is c.args.writer.now _ _ c.write-in-Final.ensures
