use Rattle.std.proofs.Common.{refl}
use Rattle.yasna_tool_run.proofs.ends.CountedSink.flush.Goals as goal

pub returns-in-Ok-clause-flushed : goal.returns-in-Ok-clause-flushed
returns-in-Ok-clause-flushed g c = refl
