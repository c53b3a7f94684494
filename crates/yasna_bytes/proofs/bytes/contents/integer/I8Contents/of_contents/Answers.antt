use Rattle.std.proofs.Common.{rules}
use Rattle.yasna_bytes.proofs.bytes.contents.integer.I8Contents.of_contents.Goals as goal

pub returns : goal.returns
returns c = search rules
