use Rattle.yasna_notation.proofs.Chosen.{can_as, known_as}
use Rattle.snmp.specs.contracts.v1.object_syntax.ObjectSyntaxNotation.TheImpl.{ghosts as choice}
use Rattle.snmp.proofs.v1.object_syntax.ObjectSyntaxNotation.encoded_len.Goals as goal

pub encoded_len-requires : goal.encoded_len-requires
encoded_len-requires c = can_as choice.means c.in-Number.is c.requires

pub returns-in-Number : goal.returns-in-Number
returns-in-Number c = known_as choice.means c.in-Number.is c.args.under c.args.mode _ c.encoded_len.ensures

pub encoded_len-requires-in-String : goal.encoded_len-requires-in-String
encoded_len-requires-in-String c = can_as choice.means c.in-String.is c.requires

pub returns-in-String : goal.returns-in-String
returns-in-String c = known_as choice.means c.in-String.is c.args.under c.args.mode _ c.encoded_len-in-String.ensures

pub encoded_len-requires-in-Object : goal.encoded_len-requires-in-Object
encoded_len-requires-in-Object c = can_as choice.means c.in-Object.is c.requires

pub returns-in-Object : goal.returns-in-Object
returns-in-Object c = known_as choice.means c.in-Object.is c.args.under c.args.mode _ c.encoded_len-in-Object.ensures

pub encoded_len-requires-in-Empty : goal.encoded_len-requires-in-Empty
encoded_len-requires-in-Empty c = can_as choice.means c.in-Empty.is c.requires

pub returns-in-Empty : goal.returns-in-Empty
returns-in-Empty c = known_as choice.means c.in-Empty.is c.args.under c.args.mode _ c.encoded_len-in-Empty.ensures

pub encoded_len-requires-in-Address : goal.encoded_len-requires-in-Address
encoded_len-requires-in-Address c = can_as choice.means c.in-Address.is c.requires

pub returns-in-Address : goal.returns-in-Address
returns-in-Address c = known_as choice.means c.in-Address.is c.args.under c.args.mode _ c.encoded_len-in-Address.ensures

pub encoded_len-requires-in-Counter : goal.encoded_len-requires-in-Counter
encoded_len-requires-in-Counter c = can_as choice.means c.in-Counter.is c.requires

pub returns-in-Counter : goal.returns-in-Counter
returns-in-Counter c = known_as choice.means c.in-Counter.is c.args.under c.args.mode _ c.encoded_len-in-Counter.ensures

pub encoded_len-requires-in-Gauge : goal.encoded_len-requires-in-Gauge
encoded_len-requires-in-Gauge c = can_as choice.means c.in-Gauge.is c.requires

pub returns-in-Gauge : goal.returns-in-Gauge
returns-in-Gauge c = known_as choice.means c.in-Gauge.is c.args.under c.args.mode _ c.encoded_len-in-Gauge.ensures

pub encoded_len-requires-in-Ticks : goal.encoded_len-requires-in-Ticks
encoded_len-requires-in-Ticks c = can_as choice.means c.in-Ticks.is c.requires

pub returns-in-Ticks : goal.returns-in-Ticks
returns-in-Ticks c = known_as choice.means c.in-Ticks.is c.args.under c.args.mode _ c.encoded_len-in-Ticks.ensures

pub encoded_len-requires-in-Arbitrary : goal.encoded_len-requires-in-Arbitrary
encoded_len-requires-in-Arbitrary c = can_as choice.means c.in-Arbitrary.is c.requires

pub returns-in-Arbitrary : goal.returns-in-Arbitrary
returns-in-Arbitrary c = known_as choice.means c.in-Arbitrary.is c.args.under c.args.mode _ c.encoded_len-in-Arbitrary.ensures
