use Rattle.yasna_notation.proofs.Chosen.{can_as, written_as}
use Rattle.snmp.specs.contracts.application_syntax.ApplicationSyntaxNotation.TheImpl.{ghosts as choice}
use Rattle.snmp.proofs.application_syntax.ApplicationSyntaxNotation.write.Goals as goal

pub write-requires : goal.write-requires
write-requires c = can_as choice.means c.in-IpAddressValue.is c.requires

pub returns-in-IpAddressValue : goal.returns-in-IpAddressValue
returns-in-IpAddressValue c = written_as choice.means c.in-IpAddressValue.is c.args.writer.now _ _ c.write.ensures

pub write-requires-in-CounterValue : goal.write-requires-in-CounterValue
write-requires-in-CounterValue c = can_as choice.means c.in-CounterValue.is c.requires

pub returns-in-CounterValue : goal.returns-in-CounterValue
returns-in-CounterValue c = written_as choice.means c.in-CounterValue.is c.args.writer.now _ _ c.write-in-CounterValue.ensures

pub write-requires-in-TimeTicksValue : goal.write-requires-in-TimeTicksValue
write-requires-in-TimeTicksValue c = can_as choice.means c.in-TimeTicksValue.is c.requires

pub returns-in-TimeTicksValue : goal.returns-in-TimeTicksValue
returns-in-TimeTicksValue c = written_as choice.means c.in-TimeTicksValue.is c.args.writer.now _ _ c.write-in-TimeTicksValue.ensures

pub write-requires-in-ArbitraryValue : goal.write-requires-in-ArbitraryValue
write-requires-in-ArbitraryValue c = can_as choice.means c.in-ArbitraryValue.is c.requires

pub returns-in-ArbitraryValue : goal.returns-in-ArbitraryValue
returns-in-ArbitraryValue c = written_as choice.means c.in-ArbitraryValue.is c.args.writer.now _ _ c.write-in-ArbitraryValue.ensures

pub write-requires-in-BigCounterValue : goal.write-requires-in-BigCounterValue
write-requires-in-BigCounterValue c = can_as choice.means c.in-BigCounterValue.is c.requires

pub returns-in-BigCounterValue : goal.returns-in-BigCounterValue
returns-in-BigCounterValue c = written_as choice.means c.in-BigCounterValue.is c.args.writer.now _ _ c.write-in-BigCounterValue.ensures

pub write-requires-in-UnsignedIntegerValue : goal.write-requires-in-UnsignedIntegerValue
write-requires-in-UnsignedIntegerValue c = can_as choice.means c.in-UnsignedIntegerValue.is c.requires

pub returns-in-UnsignedIntegerValue : goal.returns-in-UnsignedIntegerValue
returns-in-UnsignedIntegerValue c = written_as choice.means c.in-UnsignedIntegerValue.is c.args.writer.now _ _ c.write-in-UnsignedIntegerValue.ensures
