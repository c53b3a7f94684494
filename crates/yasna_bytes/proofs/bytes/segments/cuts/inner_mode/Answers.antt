use Rattle.std.proofs.Common.{rules}
use Rattle.yasna_bytes.proofs.bytes.segments.cuts.inner_mode.Goals as goal

pub returns-in-Cer : goal.returns-in-Cer
returns-in-Cer c = search rules
