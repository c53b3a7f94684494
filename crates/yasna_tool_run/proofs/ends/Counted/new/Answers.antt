use Rattle.std.proofs.Common.{refl}
use Rattle.yasna_tool_run.proofs.ends.Counted.new.Goals as goal

pub returns-clause-failures : goal.returns-clause-failures
returns-clause-failures g c = refl
