use Rattle.std.proofs.Common.{rules}
use Rattle.yasna_base.proofs.models.tagged_der_value.TaggedDerValue.from_tag_pc_and_bytes.Goals as goal

pub returns : goal.returns
returns c = search rules
