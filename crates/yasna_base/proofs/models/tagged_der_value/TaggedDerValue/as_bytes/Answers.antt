use Rattle.std.proofs.Common.{rules}
use Rattle.yasna_base.proofs.models.tagged_der_value.TaggedDerValue.as_bytes.Goals as goal

pub returns-in-TAG_BITSTRING-Primitive : goal.returns-in-TAG_BITSTRING-Primitive
returns-in-TAG_BITSTRING-Primitive c = search rules
