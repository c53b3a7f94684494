use Rattle.std.proofs.Common.{rules}
use Rattle.yasna_bytes.proofs.bytes.header.end_of_contents_error.Goals as goal

pub returns-in-empty : goal.returns-in-empty
returns-in-empty c = search rules

pub returns-in-empty-2 : goal.returns-in-empty-2
returns-in-empty-2 c = search rules
