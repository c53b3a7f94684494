use Rattle.yasna_notation.proofs.Chosen.{can_as, known_as}
use Rattle.ldap.specs.contracts.substring.SubstringNotation.TheImpl.{ghosts as choice}
use Rattle.ldap.proofs.substring.SubstringNotation.encoded_len.Goals as goal

pub encoded_len-requires : goal.encoded_len-requires
encoded_len-requires c = can_as choice.means c.in-Initial.is c.requires

pub returns-in-Initial : goal.returns-in-Initial
returns-in-Initial c = known_as choice.means c.in-Initial.is c.args.under c.args.mode _ c.encoded_len.ensures

pub encoded_len-requires-in-Any : goal.encoded_len-requires-in-Any
encoded_len-requires-in-Any c = can_as choice.means c.in-Any.is c.requires

pub returns-in-Any : goal.returns-in-Any
returns-in-Any c = known_as choice.means c.in-Any.is c.args.under c.args.mode _ c.encoded_len-in-Any.ensures

pub encoded_len-requires-in-Final : goal.encoded_len-requires-in-Final
encoded_len-requires-in-Final c = can_as choice.means c.in-Final.is c.requires

pub returns-in-Final : goal.returns-in-Final
returns-in-Final c = known_as choice.means c.in-Final.is c.args.under c.args.mode _ c.encoded_len-in-Final.ensures
