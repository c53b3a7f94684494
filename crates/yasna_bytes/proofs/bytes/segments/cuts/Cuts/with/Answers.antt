use Rattle.std.proofs.Common.{rules}
use Rattle.yasna_bytes.proofs.bytes.segments.cuts.Cuts.with.Goals as goal

pub returns-then-size-ge1 : goal.returns-then-size-ge1
returns-then-size-ge1 c = search rules

pub returns-else-size-ge1 : goal.returns-else-size-ge1
returns-else-size-ge1 c = search rules
