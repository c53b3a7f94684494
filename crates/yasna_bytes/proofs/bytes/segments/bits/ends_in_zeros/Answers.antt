use Rattle.std.proofs.Common.{rules}
use Rattle.yasna_bytes.proofs.bytes.segments.bits.ends_in_zeros.Goals as goal

pub returns-in-Some : goal.returns-in-Some
returns-in-Some c = search rules
