use Rattle.std.proofs.Common.{rules}
use Rattle.yasna_bytes.proofs.bytes.contents.boolean.is_true.Goals as goal

pub returns-in-Der : goal.returns-in-Der
returns-in-Der c = search rules
