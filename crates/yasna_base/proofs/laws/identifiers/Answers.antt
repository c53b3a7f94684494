use Rattle.yasna_base.proofs.Identifier.{identifier_exact}
use Rattle.yasna_base.proofs.laws.identifiers.Goals as goal

pub returns : goal.returns
returns c = identifier_exact
