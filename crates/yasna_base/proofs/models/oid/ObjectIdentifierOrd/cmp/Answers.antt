use Rattle.std.proofs.Common.{rules}
use Rattle.yasna_base.proofs.models.oid.ObjectIdentifierOrd.cmp.Goals as goal

pub returns : goal.returns
returns c = search rules
