use Rattle.yasna_reader.proofs.SetReads.{reads_set}
use Rattle.yasna_reader.proofs.laws.set_reads.Goals as goal

pub returns : goal.returns
returns g c = λ f tag s z r h k. reads_set g.F.FnOnce f tag s r z h k
