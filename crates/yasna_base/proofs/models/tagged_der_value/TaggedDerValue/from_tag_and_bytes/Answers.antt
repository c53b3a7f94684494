use Rattle.std.proofs.Common.{rules}
use Rattle.yasna_base.proofs.models.tagged_der_value.TaggedDerValue.from_tag_and_bytes.Goals as goal

pub returns-clause-set : goal.returns-clause-set
returns-clause-set c = search rules
