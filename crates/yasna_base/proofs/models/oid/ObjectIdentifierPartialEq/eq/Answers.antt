use Rattle.std.proofs.Common.{rules}
use Rattle.yasna_base.proofs.models.oid.ObjectIdentifierPartialEq.eq.Goals as goal

pub returns : goal.returns
returns c = search rules
