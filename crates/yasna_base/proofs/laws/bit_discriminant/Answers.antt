use Rattle.std.proofs.Common.{rules}
use Rattle.yasna_base.proofs.laws.bit_discriminant.Goals as goal

pub returns : goal.returns
returns c = search rules
