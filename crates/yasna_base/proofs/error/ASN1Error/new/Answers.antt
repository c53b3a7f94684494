use Rattle.std.proofs.Common.{rules}
use Rattle.yasna_base.proofs.error.ASN1Error.new.Goals as goal

pub returns : goal.returns
returns c = search rules
