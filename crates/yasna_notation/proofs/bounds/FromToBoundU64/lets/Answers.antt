use Rattle.std.proofs.Common.{rules}
use Rattle.yasna_notation.proofs.bounds.FromToBoundU64.lets.Goals as goal

pub returns-then-value : goal.returns-then-value
returns-then-value c = search rules
