use Rattle.std.proofs.Common.{rules}
use Rattle.yasna_notation.proofs.tag_names.ContextTagName.tag.Goals as goal

pub returns : goal.returns
returns g c = search rules
