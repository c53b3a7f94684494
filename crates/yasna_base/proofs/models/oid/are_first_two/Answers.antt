use Rattle.std.proofs.Common.{rules}
use Rattle.yasna_base.proofs.models.oid.are_first_two.Goals as goal

pub returns-in-0 : goal.returns-in-0
returns-in-0 c = search rules
