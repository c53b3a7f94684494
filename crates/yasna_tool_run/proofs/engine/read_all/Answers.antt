use Rattle.std.proofs.Common.{arith}
use Rattle.yasna_tool_run.proofs.engine.read_all.Goals as goal

pub returns-in-Ok-eq0-clause-end : goal.returns-in-Ok-eq0-clause-end
returns-in-Ok-eq0-clause-end g c = (c.in-Ok-eq0.ensures {u = tt}).bytes.1 c.in-Ok-eq0.field-0-test (omega arith)
