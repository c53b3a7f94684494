use Rattle.std.proofs.Common.{rules}
use Rattle.yasna_base.proofs.models.tagged_der_value.TaggedDerValue.clone.Goals as goal

pub returns-clause-copy : goal.returns-clause-copy
returns-clause-copy c = search rules
