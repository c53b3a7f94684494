use Rattle.std.proofs.Common.{rules}
use Rattle.yasna_bytes.proofs.bytes.walk.descends_into.Goals as goal

pub returns-in-Constructed : goal.returns-in-Constructed
returns-in-Constructed c = search rules
