use Rattle.yasna_notation.proofs.Chosen.{can_as, prepended_as}
use Rattle.ldap.specs.contracts.filter_item.FilterItemNotation.TheImpl.{ghosts as choice}
use Rattle.ldap.proofs.filter_item.FilterItemNotation.prepend.Goals as goal

pub prepend-requires : goal.prepend-requires
prepend-requires c = can_as choice.means c.in-EqualityMatch.is c.requires

pub returns-in-EqualityMatch : goal.returns-in-EqualityMatch
returns-in-EqualityMatch c = prepended_as choice.means c.in-EqualityMatch.is c.args.under c.args.out.now _ _ c.prepend.ensures

pub prepend-requires-in-Substrings : goal.prepend-requires-in-Substrings
prepend-requires-in-Substrings c = can_as choice.means c.in-Substrings.is c.requires

pub returns-in-Substrings : goal.returns-in-Substrings
returns-in-Substrings c = prepended_as choice.means c.in-Substrings.is c.args.under c.args.out.now _ _ c.prepend-in-Substrings.ensures

pub prepend-requires-in-GreaterOrEqual : goal.prepend-requires-in-GreaterOrEqual
prepend-requires-in-GreaterOrEqual c = can_as choice.means c.in-GreaterOrEqual.is c.requires

pub returns-in-GreaterOrEqual : goal.returns-in-GreaterOrEqual
returns-in-GreaterOrEqual c = prepended_as choice.means c.in-GreaterOrEqual.is c.args.under c.args.out.now _ _ c.prepend-in-GreaterOrEqual.ensures

pub prepend-requires-in-LessOrEqual : goal.prepend-requires-in-LessOrEqual
prepend-requires-in-LessOrEqual c = can_as choice.means c.in-LessOrEqual.is c.requires

pub returns-in-LessOrEqual : goal.returns-in-LessOrEqual
returns-in-LessOrEqual c = prepended_as choice.means c.in-LessOrEqual.is c.args.under c.args.out.now _ _ c.prepend-in-LessOrEqual.ensures

pub prepend-requires-in-Present : goal.prepend-requires-in-Present
prepend-requires-in-Present c = can_as choice.means c.in-Present.is c.requires

pub returns-in-Present : goal.returns-in-Present
returns-in-Present c = prepended_as choice.means c.in-Present.is c.args.under c.args.out.now _ _ c.prepend-in-Present.ensures

pub prepend-requires-in-ApproxMatch : goal.prepend-requires-in-ApproxMatch
prepend-requires-in-ApproxMatch c = can_as choice.means c.in-ApproxMatch.is c.requires

pub returns-in-ApproxMatch : goal.returns-in-ApproxMatch
returns-in-ApproxMatch c = prepended_as choice.means c.in-ApproxMatch.is c.args.under c.args.out.now _ _ c.prepend-in-ApproxMatch.ensures

pub prepend-requires-in-ExtensibleMatch : goal.prepend-requires-in-ExtensibleMatch
prepend-requires-in-ExtensibleMatch c = can_as choice.means c.in-ExtensibleMatch.is c.requires

pub returns-in-ExtensibleMatch : goal.returns-in-ExtensibleMatch
returns-in-ExtensibleMatch c = prepended_as choice.means c.in-ExtensibleMatch.is c.args.under c.args.out.now _ _ c.prepend-in-ExtensibleMatch.ensures
