use Rattle.std.proofs.Common.{rules}
use Rattle.yasna_notation.proofs.choices.Tuple2Alternatives.write.Goals as goal

pub returns-in-First : goal.returns-in-First
returns-in-First g c = search rules
