use Rattle.std.proofs.Common.{rules}
use Rattle.yasna_notation.proofs.strings.StringNotation.write.Goals as goal

pub returns : goal.returns
returns c = search rules
