use Rattle.std.proofs.Common.{refl}
use Rattle.yasna_tool_run.proofs.engine.RunFaultFromASN1Error.from.Goals as goal

pub returns : goal.returns
returns c = refl
