use Rattle.std.proofs.Common.{arith}
use Rattle.std.proofs.lemmas.Grind.{common_steps}
use Rattle.yasna_bytes.proofs.bytes.walk.prefix_before.Goals as goal

pub returns : goal.returns
returns c = grind (arith, common_steps)
