use Rattle.std.proofs.Common.{rules}
use Rattle.yasna_writer.proofs.state.Writer.append_raw_header.Goals as goal

pub returns-in_default : goal.returns-in_default
returns-in_default c = search rules
