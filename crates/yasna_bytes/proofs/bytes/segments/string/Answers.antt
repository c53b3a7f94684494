use Rattle.std.proofs.Common.{rules}
use Rattle.yasna_bytes.proofs.bytes.segments.string.Goals as goal

pub returns-in-Ok : goal.returns-in-Ok
returns-in-Ok g c = search rules
