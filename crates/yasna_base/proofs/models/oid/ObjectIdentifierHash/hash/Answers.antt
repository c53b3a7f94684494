use Rattle.std.proofs.Common.{rules}
use Rattle.yasna_base.proofs.models.oid.ObjectIdentifierHash.hash.Goals as goal

pub returns : goal.returns
returns g c = search rules
