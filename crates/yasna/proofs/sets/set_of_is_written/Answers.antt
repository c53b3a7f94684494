use Rattle.yasna_base.proofs.SetOfWriting.{set_of_writing}
use Rattle.yasna.proofs.sets.set_of_is_written.Goals as goal

pub returns : goal.returns
returns g c = set_of_writing g.met.T.BERDecodable.coding g.met.T.DERCanonical.written
