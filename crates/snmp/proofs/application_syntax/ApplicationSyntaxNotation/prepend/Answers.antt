use Rattle.yasna_notation.proofs.Chosen.{can_as, prepended_as}
use Rattle.snmp.specs.contracts.application_syntax.ApplicationSyntaxNotation.TheImpl.{ghosts as choice}
use Rattle.snmp.proofs.application_syntax.ApplicationSyntaxNotation.prepend.Goals as goal

pub prepend-requires : goal.prepend-requires
prepend-requires c = can_as choice.means c.in-IpAddressValue.is c.requires

pub returns-in-IpAddressValue : goal.returns-in-IpAddressValue
returns-in-IpAddressValue c = prepended_as choice.means c.in-IpAddressValue.is c.args.under c.args.out.now _ _ c.prepend.ensures

pub prepend-requires-in-CounterValue : goal.prepend-requires-in-CounterValue
prepend-requires-in-CounterValue c = can_as choice.means c.in-CounterValue.is c.requires

pub returns-in-CounterValue : goal.returns-in-CounterValue
returns-in-CounterValue c = prepended_as choice.means c.in-CounterValue.is c.args.under c.args.out.now _ _ c.prepend-in-CounterValue.ensures

pub prepend-requires-in-TimeTicksValue : goal.prepend-requires-in-TimeTicksValue
prepend-requires-in-TimeTicksValue c = can_as choice.means c.in-TimeTicksValue.is c.requires

pub returns-in-TimeTicksValue : goal.returns-in-TimeTicksValue
returns-in-TimeTicksValue c = prepended_as choice.means c.in-TimeTicksValue.is c.args.under c.args.out.now _ _ c.prepend-in-TimeTicksValue.ensures

pub prepend-requires-in-ArbitraryValue : goal.prepend-requires-in-ArbitraryValue
prepend-requires-in-ArbitraryValue c = can_as choice.means c.in-ArbitraryValue.is c.requires

pub returns-in-ArbitraryValue : goal.returns-in-ArbitraryValue
returns-in-ArbitraryValue c = prepended_as choice.means c.in-ArbitraryValue.is c.args.under c.args.out.now _ _ c.prepend-in-ArbitraryValue.ensures

pub prepend-requires-in-BigCounterValue : goal.prepend-requires-in-BigCounterValue
prepend-requires-in-BigCounterValue c = can_as choice.means c.in-BigCounterValue.is c.requires

pub returns-in-BigCounterValue : goal.returns-in-BigCounterValue
returns-in-BigCounterValue c = prepended_as choice.means c.in-BigCounterValue.is c.args.under c.args.out.now _ _ c.prepend-in-BigCounterValue.ensures

pub prepend-requires-in-UnsignedIntegerValue : goal.prepend-requires-in-UnsignedIntegerValue
prepend-requires-in-UnsignedIntegerValue c = can_as choice.means c.in-UnsignedIntegerValue.is c.requires

pub returns-in-UnsignedIntegerValue : goal.returns-in-UnsignedIntegerValue
returns-in-UnsignedIntegerValue c = prepended_as choice.means c.in-UnsignedIntegerValue.is c.args.under c.args.out.now _ _ c.prepend-in-UnsignedIntegerValue.ensures
