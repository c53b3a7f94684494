use Rattle.std.proofs.Common.{rules}
use Rattle.yasna_notation.proofs.defined_type.AnyNotation.has_tag.Goals as goal

pub returns : goal.returns
returns g c = search rules
