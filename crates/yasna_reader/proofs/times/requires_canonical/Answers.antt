use Rattle.std.proofs.Common.{rules}
use Rattle.yasna_reader.proofs.times.requires_canonical.Goals as goal

pub returns-in-Cer : goal.returns-in-Cer
returns-in-Cer c = search rules
