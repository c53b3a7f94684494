use Rattle.yasna_base.proofs.SetOfWriting.{set_of_reading}
use Rattle.yasna.proofs.sets.set_of_is_read.Goals as goal

pub returns : goal.returns
returns g c = set_of_reading g.met.T.BERDecodable.coding
