use Rattle.yasna_base.proofs.SetLaws.{set_of}
use Rattle.yasna_base.proofs.SetOfWriting.{set_of_reading}
use Rattle.yasna.proofs.sets.set_of_sets_is_read.Goals as goal

pub returns : goal.returns
returns g c = λ u not_end range. set_of_reading (set_of u not_end g.met.T.BERDecodable.coding)
