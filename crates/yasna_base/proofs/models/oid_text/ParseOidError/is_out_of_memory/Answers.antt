use Rattle.std.proofs.Common.{rules}
use Rattle.yasna_base.proofs.models.oid_text.ParseOidError.is_out_of_memory.Goals as goal

pub returns : goal.returns
returns c = search rules
