use Rattle.std.proofs.Common.{rules}
use Rattle.yasna_tool_run.proofs.ends.CountedSource.pull.Goals as goal

pub returns-then-is_err-clause-count : goal.returns-then-is_err-clause-count
returns-then-is_err-clause-count g c = search rules
