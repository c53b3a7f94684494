use Rattle.std.proofs.Common.{arith}
use Rattle.std.proofs.lemmas.Grind.{common_steps}
use Rattle.yasna_base.proofs.models.oid_text.ObjectIdentifierDisplay.fmt.Goals as goal

pub loop-component-preserved : goal.loop-component-preserved
loop-component-preserved g c = grind (arith, common_steps)
