use Rattle.std.proofs.Common.{arith}
use Rattle.std.proofs.lemmas.Grind.{common_steps}
use Rattle.yasna_reader.proofs.state.ReaderState.go_on.Goals as goal

pub returns : goal.returns
returns c = grind (arith, common_steps)
