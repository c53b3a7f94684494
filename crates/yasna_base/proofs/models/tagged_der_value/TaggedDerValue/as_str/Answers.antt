use Rattle.std.proofs.Common.{rules}
use Rattle.yasna_base.proofs.models.tagged_der_value.TaggedDerValue.as_str.Goals as goal

pub returns-in-TAG_UTF8STRING-Primitive : goal.returns-in-TAG_UTF8STRING-Primitive
returns-in-TAG_UTF8STRING-Primitive c = search rules

pub returns-in_default : goal.returns-in_default
returns-in_default c = search rules
