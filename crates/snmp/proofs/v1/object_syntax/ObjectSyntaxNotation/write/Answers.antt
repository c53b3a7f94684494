use Rattle.yasna_notation.proofs.Chosen.{can_as, written_as}
use Rattle.snmp.specs.contracts.v1.object_syntax.ObjectSyntaxNotation.TheImpl.{ghosts as choice}
use Rattle.snmp.proofs.v1.object_syntax.ObjectSyntaxNotation.write.Goals as goal

pub write-requires : goal.write-requires
write-requires c = can_as choice.means c.in-Number.is c.requires

pub returns-in-Number : goal.returns-in-Number
returns-in-Number c = written_as choice.means c.in-Number.is c.args.writer.now _ _ c.write.ensures

pub write-requires-in-String : goal.write-requires-in-String
write-requires-in-String c = can_as choice.means c.in-String.is c.requires

pub returns-in-String : goal.returns-in-String
returns-in-String c = written_as choice.means c.in-String.is c.args.writer.now _ _ c.write-in-String.ensures

pub write-requires-in-Object : goal.write-requires-in-Object
write-requires-in-Object c = can_as choice.means c.in-Object.is c.requires

pub returns-in-Object : goal.returns-in-Object
returns-in-Object c = written_as choice.means c.in-Object.is c.args.writer.now _ _ c.write-in-Object.ensures

pub write-requires-in-Empty : goal.write-requires-in-Empty
write-requires-in-Empty c = can_as choice.means c.in-Empty.is c.requires

pub returns-in-Empty : goal.returns-in-Empty
returns-in-Empty c = written_as choice.means c.in-Empty.is c.args.writer.now _ _ c.write-in-Empty.ensures

pub write-requires-in-Address : goal.write-requires-in-Address
write-requires-in-Address c = can_as choice.means c.in-Address.is c.requires

pub returns-in-Address : goal.returns-in-Address
returns-in-Address c = written_as choice.means c.in-Address.is c.args.writer.now _ _ c.write-in-Address.ensures

pub write-requires-in-Counter : goal.write-requires-in-Counter
write-requires-in-Counter c = can_as choice.means c.in-Counter.is c.requires

pub returns-in-Counter : goal.returns-in-Counter
returns-in-Counter c = written_as choice.means c.in-Counter.is c.args.writer.now _ _ c.write-in-Counter.ensures

pub write-requires-in-Gauge : goal.write-requires-in-Gauge
write-requires-in-Gauge c = can_as choice.means c.in-Gauge.is c.requires

pub returns-in-Gauge : goal.returns-in-Gauge
returns-in-Gauge c = written_as choice.means c.in-Gauge.is c.args.writer.now _ _ c.write-in-Gauge.ensures

pub write-requires-in-Ticks : goal.write-requires-in-Ticks
write-requires-in-Ticks c = can_as choice.means c.in-Ticks.is c.requires

pub returns-in-Ticks : goal.returns-in-Ticks
returns-in-Ticks c = written_as choice.means c.in-Ticks.is c.args.writer.now _ _ c.write-in-Ticks.ensures

pub write-requires-in-Arbitrary : goal.write-requires-in-Arbitrary
write-requires-in-Arbitrary c = can_as choice.means c.in-Arbitrary.is c.requires

pub returns-in-Arbitrary : goal.returns-in-Arbitrary
returns-in-Arbitrary c = written_as choice.means c.in-Arbitrary.is c.args.writer.now _ _ c.write-in-Arbitrary.ensures
