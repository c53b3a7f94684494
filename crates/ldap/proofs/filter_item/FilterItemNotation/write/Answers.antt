use Rattle.yasna_notation.proofs.Chosen.{can_as, written_as}
use Rattle.ldap.specs.contracts.filter_item.FilterItemNotation.TheImpl.{ghosts as choice}
use Rattle.ldap.proofs.filter_item.FilterItemNotation.write.Goals as goal

pub write-requires : goal.write-requires
write-requires c = can_as choice.means c.in-EqualityMatch.is c.requires

pub returns-in-EqualityMatch : goal.returns-in-EqualityMatch
returns-in-EqualityMatch c = written_as choice.means c.in-EqualityMatch.is c.args.writer.now _ _ c.write.ensures

pub write-requires-in-Substrings : goal.write-requires-in-Substrings
write-requires-in-Substrings c = can_as choice.means c.in-Substrings.is c.requires

pub returns-in-Substrings : goal.returns-in-Substrings
returns-in-Substrings c = written_as choice.means c.in-Substrings.is c.args.writer.now _ _ c.write-in-Substrings.ensures

pub write-requires-in-GreaterOrEqual : goal.write-requires-in-GreaterOrEqual
write-requires-in-GreaterOrEqual c = can_as choice.means c.in-GreaterOrEqual.is c.requires

pub returns-in-GreaterOrEqual : goal.returns-in-GreaterOrEqual
returns-in-GreaterOrEqual c = written_as choice.means c.in-GreaterOrEqual.is c.args.writer.now _ _ c.write-in-GreaterOrEqual.ensures

pub write-requires-in-LessOrEqual : goal.write-requires-in-LessOrEqual
write-requires-in-LessOrEqual c = can_as choice.means c.in-LessOrEqual.is c.requires

pub returns-in-LessOrEqual : goal.returns-in-LessOrEqual
returns-in-LessOrEqual c = written_as choice.means c.in-LessOrEqual.is c.args.writer.now _ _ c.write-in-LessOrEqual.ensures

pub write-requires-in-Present : goal.write-requires-in-Present
write-requires-in-Present c = can_as choice.means c.in-Present.is c.requires

pub returns-in-Present : goal.returns-in-Present
returns-in-Present c = written_as choice.means c.in-Present.is c.args.writer.now _ _ c.write-in-Present.ensures

pub write-requires-in-ApproxMatch : goal.write-requires-in-ApproxMatch
write-requires-in-ApproxMatch c = can_as choice.means c.in-ApproxMatch.is c.requires

pub returns-in-ApproxMatch : goal.returns-in-ApproxMatch
returns-in-ApproxMatch c = written_as choice.means c.in-ApproxMatch.is c.args.writer.now _ _ c.write-in-ApproxMatch.ensures

pub write-requires-in-ExtensibleMatch : goal.write-requires-in-ExtensibleMatch
write-requires-in-ExtensibleMatch c = can_as choice.means c.in-ExtensibleMatch.is c.requires

pub returns-in-ExtensibleMatch : goal.returns-in-ExtensibleMatch
returns-in-ExtensibleMatch c = written_as choice.means c.in-ExtensibleMatch.is c.args.writer.now _ _ c.write-in-ExtensibleMatch.ensures
