use Rattle.std.proofs.Common.{rules}
use Rattle.yasna_bytes.proofs.bytes.cursor.Cursor.inside.Goals as goal

pub returns-clause-levels : goal.returns-clause-levels
returns-clause-levels c = search rules
