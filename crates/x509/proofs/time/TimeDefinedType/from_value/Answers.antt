use Rattle.std.proofs.Common.{arith}
use Rattle.x509.proofs.time.TimeDefinedType.from_value.Goals as goal

pub returns-in-First : goal.returns-in-First
returns-in-First c = grind arith

pub returns-in-Second : goal.returns-in-Second
returns-in-Second c = grind arith
