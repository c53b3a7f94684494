use Rattle.std.proofs.Common.{rules}
use Rattle.yasna_tool_run.proofs.value_type.kind_named.Goals as goal

pub returns-in_default : goal.returns-in_default
returns-in_default c = search rules
