use Rattle.yasna_notation.proofs.Chosen.{can_as, known_as}
use Rattle.ldap.specs.contracts.filter_item.FilterItemNotation.TheImpl.{ghosts as choice}
use Rattle.ldap.proofs.filter_item.FilterItemNotation.encoded_len.Goals as goal

pub encoded_len-requires : goal.encoded_len-requires
encoded_len-requires c = can_as choice.means c.in-EqualityMatch.is c.requires

pub returns-in-EqualityMatch : goal.returns-in-EqualityMatch
returns-in-EqualityMatch c = known_as choice.means c.in-EqualityMatch.is c.args.under c.args.mode _ c.encoded_len.ensures

pub encoded_len-requires-in-Substrings : goal.encoded_len-requires-in-Substrings
encoded_len-requires-in-Substrings c = can_as choice.means c.in-Substrings.is c.requires

pub returns-in-Substrings : goal.returns-in-Substrings
returns-in-Substrings c = known_as choice.means c.in-Substrings.is c.args.under c.args.mode _ c.encoded_len-in-Substrings.ensures

pub encoded_len-requires-in-GreaterOrEqual : goal.encoded_len-requires-in-GreaterOrEqual
encoded_len-requires-in-GreaterOrEqual c = can_as choice.means c.in-GreaterOrEqual.is c.requires

pub returns-in-GreaterOrEqual : goal.returns-in-GreaterOrEqual
returns-in-GreaterOrEqual c = known_as choice.means c.in-GreaterOrEqual.is c.args.under c.args.mode _ c.encoded_len-in-GreaterOrEqual.ensures

pub encoded_len-requires-in-LessOrEqual : goal.encoded_len-requires-in-LessOrEqual
encoded_len-requires-in-LessOrEqual c = can_as choice.means c.in-LessOrEqual.is c.requires

pub returns-in-LessOrEqual : goal.returns-in-LessOrEqual
returns-in-LessOrEqual c = known_as choice.means c.in-LessOrEqual.is c.args.under c.args.mode _ c.encoded_len-in-LessOrEqual.ensures

pub encoded_len-requires-in-Present : goal.encoded_len-requires-in-Present
encoded_len-requires-in-Present c = can_as choice.means c.in-Present.is c.requires

pub returns-in-Present : goal.returns-in-Present
returns-in-Present c = known_as choice.means c.in-Present.is c.args.under c.args.mode _ c.encoded_len-in-Present.ensures

pub encoded_len-requires-in-ApproxMatch : goal.encoded_len-requires-in-ApproxMatch
encoded_len-requires-in-ApproxMatch c = can_as choice.means c.in-ApproxMatch.is c.requires

pub returns-in-ApproxMatch : goal.returns-in-ApproxMatch
returns-in-ApproxMatch c = known_as choice.means c.in-ApproxMatch.is c.args.under c.args.mode _ c.encoded_len-in-ApproxMatch.ensures

pub encoded_len-requires-in-ExtensibleMatch : goal.encoded_len-requires-in-ExtensibleMatch
encoded_len-requires-in-ExtensibleMatch c = can_as choice.means c.in-ExtensibleMatch.is c.requires

pub returns-in-ExtensibleMatch : goal.returns-in-ExtensibleMatch
returns-in-ExtensibleMatch c = known_as choice.means c.in-ExtensibleMatch.is c.args.under c.args.mode _ c.encoded_len-in-ExtensibleMatch.ensures
