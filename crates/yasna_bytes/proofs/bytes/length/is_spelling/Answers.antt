use Rattle.std.proofs.Common.{rules}
use Rattle.yasna_bytes.proofs.bytes.length.is_spelling.Goals as goal

pub returns-then-size-ge128 : goal.returns-then-size-ge128
returns-then-size-ge128 c = search rules
