use Rattle.std.proofs.Common.{rules}
use Rattle.yasna_writer.proofs.Primitives.{short_element}
use Rattle.yasna_writer.proofs.state.Writer.write_null.Goals as goal

pub returns-then-tag-lt31 : goal.returns-then-tag-lt31
returns-then-tag-lt31 c = search (rules, short_element)
