use Rattle.std.proofs.Common.{rules}
use Rattle.yasna_writer.proofs.state.Writer.tag_next.Goals as goal

pub returns-clause-tagged : goal.returns-clause-tagged
returns-clause-tagged c = search rules
