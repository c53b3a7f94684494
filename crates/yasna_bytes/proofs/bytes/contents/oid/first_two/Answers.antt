use Rattle.std.proofs.Common.{rules}
use Rattle.yasna_bytes.proofs.bytes.contents.oid.first_two.Goals as goal

pub returns-else-number-lt80-clause-two : goal.returns-else-number-lt80-clause-two
returns-else-number-lt80-clause-two c = search rules
