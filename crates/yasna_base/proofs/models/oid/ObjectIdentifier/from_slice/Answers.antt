use Rattle.std.proofs.Common.{rules}
use Rattle.yasna_base.proofs.models.oid.ObjectIdentifier.from_slice.Goals as goal

pub returns-clause-copy : goal.returns-clause-copy
returns-clause-copy c = search rules
