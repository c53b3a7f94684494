use Rattle.std.proofs.Common.{arith, sym}
use Rattle.yasna_notation.proofs.Chosen.{second_is}
use Rattle.snmp.proofs.simple_syntax.SimpleSyntaxRepresentsSides.from_value.Goals as goal

pub returns-in-First : goal.returns-in-First
returns-in-First c = grind arith

pub returns-in-Second-First : goal.returns-in-Second-First
returns-in-Second-First c = sym (second_is c.in-Second-First.is c.in-Second-First.field-0-is)

pub returns-in-Second-Second : goal.returns-in-Second-Second
returns-in-Second-Second c = sym (second_is c.in-Second-Second.is c.in-Second-Second.field-0-is)
