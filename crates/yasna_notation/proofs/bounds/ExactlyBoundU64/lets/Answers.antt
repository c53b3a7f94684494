use Rattle.std.proofs.Common.{rules}
use Rattle.yasna_notation.proofs.bounds.ExactlyBoundU64.lets.Goals as goal

pub returns : goal.returns
returns c = search rules
