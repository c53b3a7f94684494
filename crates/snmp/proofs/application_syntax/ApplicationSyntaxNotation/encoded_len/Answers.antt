use Rattle.yasna_notation.proofs.Chosen.{can_as, known_as}
use Rattle.snmp.specs.contracts.application_syntax.ApplicationSyntaxNotation.TheImpl.{ghosts as choice}
use Rattle.snmp.proofs.application_syntax.ApplicationSyntaxNotation.encoded_len.Goals as goal

pub encoded_len-requires : goal.encoded_len-requires
encoded_len-requires c = can_as choice.means c.in-IpAddressValue.is c.requires

pub returns-in-IpAddressValue : goal.returns-in-IpAddressValue
returns-in-IpAddressValue c = known_as choice.means c.in-IpAddressValue.is c.args.under c.args.mode _ c.encoded_len.ensures

pub encoded_len-requires-in-CounterValue : goal.encoded_len-requires-in-CounterValue
encoded_len-requires-in-CounterValue c = can_as choice.means c.in-CounterValue.is c.requires

pub returns-in-CounterValue : goal.returns-in-CounterValue
returns-in-CounterValue c = known_as choice.means c.in-CounterValue.is c.args.under c.args.mode _ c.encoded_len-in-CounterValue.ensures

pub encoded_len-requires-in-TimeTicksValue : goal.encoded_len-requires-in-TimeTicksValue
encoded_len-requires-in-TimeTicksValue c = can_as choice.means c.in-TimeTicksValue.is c.requires

pub returns-in-TimeTicksValue : goal.returns-in-TimeTicksValue
returns-in-TimeTicksValue c = known_as choice.means c.in-TimeTicksValue.is c.args.under c.args.mode _ c.encoded_len-in-TimeTicksValue.ensures

pub encoded_len-requires-in-ArbitraryValue : goal.encoded_len-requires-in-ArbitraryValue
encoded_len-requires-in-ArbitraryValue c = can_as choice.means c.in-ArbitraryValue.is c.requires

pub returns-in-ArbitraryValue : goal.returns-in-ArbitraryValue
returns-in-ArbitraryValue c = known_as choice.means c.in-ArbitraryValue.is c.args.under c.args.mode _ c.encoded_len-in-ArbitraryValue.ensures

pub encoded_len-requires-in-BigCounterValue : goal.encoded_len-requires-in-BigCounterValue
encoded_len-requires-in-BigCounterValue c = can_as choice.means c.in-BigCounterValue.is c.requires

pub returns-in-BigCounterValue : goal.returns-in-BigCounterValue
returns-in-BigCounterValue c = known_as choice.means c.in-BigCounterValue.is c.args.under c.args.mode _ c.encoded_len-in-BigCounterValue.ensures

pub encoded_len-requires-in-UnsignedIntegerValue : goal.encoded_len-requires-in-UnsignedIntegerValue
encoded_len-requires-in-UnsignedIntegerValue c = can_as choice.means c.in-UnsignedIntegerValue.is c.requires

pub returns-in-UnsignedIntegerValue : goal.returns-in-UnsignedIntegerValue
returns-in-UnsignedIntegerValue c = known_as choice.means c.in-UnsignedIntegerValue.is c.args.under c.args.mode _ c.encoded_len-in-UnsignedIntegerValue.ensures
