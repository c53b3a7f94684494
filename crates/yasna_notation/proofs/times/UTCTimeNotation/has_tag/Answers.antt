use Rattle.std.proofs.Common.{rules}
use Rattle.yasna_notation.proofs.times.UTCTimeNotation.has_tag.Goals as goal

pub returns : goal.returns
returns c = search rules
