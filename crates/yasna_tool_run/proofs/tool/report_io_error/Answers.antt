use Rattle.std.proofs.Common.{rules}
use Rattle.yasna_tool_run.proofs.tool.report_io_error.Goals as goal

pub returns : goal.returns
returns g c = search rules
