use Rattle.std.proofs.lemmas.Bool.{and_parts}
use Rattle.yasna_notation.proofs.Found.{last_found}
use Rattle.yasna_notation.proofs.choices.Tuple1Alternatives.read_found.Goals as goal

pub returns : goal.returns
returns g c = last_found (and_parts g.A.Notation.means.tags_known g.A.Notation.unambiguous c.requires).0 c.read.ensures
