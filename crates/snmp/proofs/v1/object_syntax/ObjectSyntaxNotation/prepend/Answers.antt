use Rattle.yasna_notation.proofs.Chosen.{can_as, prepended_as}
use Rattle.snmp.specs.contracts.v1.object_syntax.ObjectSyntaxNotation.TheImpl.{ghosts as choice}
use Rattle.snmp.proofs.v1.object_syntax.ObjectSyntaxNotation.prepend.Goals as goal

pub prepend-requires : goal.prepend-requires
prepend-requires c = can_as choice.means c.in-Number.is c.requires

pub returns-in-Number : goal.returns-in-Number
returns-in-Number c = prepended_as choice.means c.in-Number.is c.args.under c.args.out.now _ _ c.prepend.ensures

pub prepend-requires-in-String : goal.prepend-requires-in-String
prepend-requires-in-String c = can_as choice.means c.in-String.is c.requires

pub returns-in-String : goal.returns-in-String
returns-in-String c = prepended_as choice.means c.in-String.is c.args.under c.args.out.now _ _ c.prepend-in-String.ensures

pub prepend-requires-in-Object : goal.prepend-requires-in-Object
prepend-requires-in-Object c = can_as choice.means c.in-Object.is c.requires

pub returns-in-Object : goal.returns-in-Object
returns-in-Object c = prepended_as choice.means c.in-Object.is c.args.under c.args.out.now _ _ c.prepend-in-Object.ensures

pub prepend-requires-in-Empty : goal.prepend-requires-in-Empty
prepend-requires-in-Empty c = can_as choice.means c.in-Empty.is c.requires

pub returns-in-Empty : goal.returns-in-Empty
returns-in-Empty c = prepended_as choice.means c.in-Empty.is c.args.under c.args.out.now _ _ c.prepend-in-Empty.ensures

pub prepend-requires-in-Address : goal.prepend-requires-in-Address
prepend-requires-in-Address c = can_as choice.means c.in-Address.is c.requires

pub returns-in-Address : goal.returns-in-Address
returns-in-Address c = prepended_as choice.means c.in-Address.is c.args.under c.args.out.now _ _ c.prepend-in-Address.ensures

pub prepend-requires-in-Counter : goal.prepend-requires-in-Counter
prepend-requires-in-Counter c = can_as choice.means c.in-Counter.is c.requires

pub returns-in-Counter : goal.returns-in-Counter
returns-in-Counter c = prepended_as choice.means c.in-Counter.is c.args.under c.args.out.now _ _ c.prepend-in-Counter.ensures

pub prepend-requires-in-Gauge : goal.prepend-requires-in-Gauge
prepend-requires-in-Gauge c = can_as choice.means c.in-Gauge.is c.requires

pub returns-in-Gauge : goal.returns-in-Gauge
returns-in-Gauge c = prepended_as choice.means c.in-Gauge.is c.args.under c.args.out.now _ _ c.prepend-in-Gauge.ensures

pub prepend-requires-in-Ticks : goal.prepend-requires-in-Ticks
prepend-requires-in-Ticks c = can_as choice.means c.in-Ticks.is c.requires

pub returns-in-Ticks : goal.returns-in-Ticks
returns-in-Ticks c = prepended_as choice.means c.in-Ticks.is c.args.under c.args.out.now _ _ c.prepend-in-Ticks.ensures

pub prepend-requires-in-Arbitrary : goal.prepend-requires-in-Arbitrary
prepend-requires-in-Arbitrary c = can_as choice.means c.in-Arbitrary.is c.requires

pub returns-in-Arbitrary : goal.returns-in-Arbitrary
returns-in-Arbitrary c = prepended_as choice.means c.in-Arbitrary.is c.args.under c.args.out.now _ _ c.prepend-in-Arbitrary.ensures
