use Rattle.yasna_base.proofs.Length.{length_exact}
use Rattle.yasna_base.proofs.laws.lengths.Goals as goal

pub returns : goal.returns
returns c = λ m. length_exact m m
