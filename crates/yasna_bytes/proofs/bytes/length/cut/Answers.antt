use Rattle.std.proofs.Common.{rules}
use Rattle.yasna_bytes.proofs.bytes.length.cut.Goals as goal

pub returns-then-s-count : goal.returns-then-s-count
returns-then-s-count c = search rules
