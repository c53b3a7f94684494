use Rattle.std.proofs.Common.{rules}
use Rattle.yasna_notation.proofs.bounds.AtMostBoundU64.lets.Goals as goal

pub returns : goal.returns
returns c = search rules
