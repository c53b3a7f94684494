use Rattle.yasna_notation.proofs.Chosen.{can_as, prepended_as}
use Rattle.ldap.specs.contracts.substring.SubstringNotation.TheImpl.{ghosts as choice}
use Rattle.ldap.proofs.substring.SubstringNotation.prepend.Goals as goal

pub prepend-requires : goal.prepend-requires
prepend-requires c = can_as choice.means c.in-Initial.is c.requires

pub returns-in-Initial : goal.returns-in-Initial
returns-in-Initial c = prepended_as choice.means c.in-Initial.is c.args.under c.args.out.now _ _ c.prepend.ensures

pub prepend-requires-in-Any : goal.prepend-requires-in-Any
prepend-requires-in-Any c = can_as choice.means c.in-Any.is c.requires

pub returns-in-Any : goal.returns-in-Any
returns-in-Any c = prepended_as choice.means c.in-Any.is c.args.under c.args.out.now _ _ c.prepend-in-Any.ensures

pub prepend-requires-in-Final : goal.prepend-requires-in-Final
prepend-requires-in-Final c = can_as choice.means c.in-Final.is c.requires

pub returns-in-Final : goal.returns-in-Final
returns-in-Final c = prepended_as choice.means c.in-Final.is c.args.under c.args.out.now _ _ c.prepend-in-Final.ensures
