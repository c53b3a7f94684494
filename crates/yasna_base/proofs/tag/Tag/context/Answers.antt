use Rattle.std.proofs.Common.{rules}
use Rattle.yasna_base.proofs.tag.Tag.context.Goals as goal

pub returns : goal.returns
returns c = search rules
