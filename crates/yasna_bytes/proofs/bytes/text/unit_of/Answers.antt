use Rattle.std.proofs.Common.{rules}
use Rattle.yasna_bytes.proofs.bytes.text.unit_of.Goals as goal

pub returns : goal.returns
returns c = search rules
