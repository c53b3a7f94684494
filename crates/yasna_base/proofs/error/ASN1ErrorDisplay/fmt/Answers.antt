use Rattle.std.proofs.Common.{rules}
use Rattle.yasna_base.proofs.error.ASN1ErrorDisplay.fmt.Goals as goal

pub returns-in-Extra-clause-writes : goal.returns-in-Extra-clause-writes
returns-in-Extra-clause-writes g c = search rules
