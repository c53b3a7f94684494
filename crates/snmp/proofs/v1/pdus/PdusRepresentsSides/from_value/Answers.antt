use Rattle.std.proofs.Common.{sym}
use Rattle.yasna_notation.proofs.Chosen.{second_is}
use Rattle.snmp.proofs.v1.pdus.PdusRepresentsSides.from_value.Goals as goal

pub returns-in-First : goal.returns-in-First
returns-in-First c = sym c.in-First.is

pub returns-in-Second-First : goal.returns-in-Second-First
returns-in-Second-First c = sym (second_is c.in-Second-First.is c.in-Second-First.field-0-is)

pub returns-in-Second-Second-First : goal.returns-in-Second-Second-First
returns-in-Second-Second-First c =
    let x = c.in-Second-Second-First in
    sym (second_is x.is (second_is x.field-0-is x.field-0-0-is))

pub returns-in-Second-Second-Second-First : goal.returns-in-Second-Second-Second-First
returns-in-Second-Second-Second-First c =
    let x = c.in-Second-Second-Second-First in
    sym (second_is x.is (second_is x.field-0-is (second_is x.field-0-0-is x.field-0-0-0-is)))

pub returns-in-Second-Second-Second-Second : goal.returns-in-Second-Second-Second-Second
returns-in-Second-Second-Second-Second c =
    let x = c.in-Second-Second-Second-Second in
    sym (second_is x.is (second_is x.field-0-is (second_is x.field-0-0-is x.field-0-0-0-is)))
