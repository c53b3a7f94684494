use Rattle.std.proofs.Common.{rules}
use Rattle.yasna_bytes.proofs.bytes.header.open_after_identifier.Goals as goal

pub returns-then-cursor-eq0 : goal.returns-then-cursor-eq0
returns-then-cursor-eq0 c = search rules
