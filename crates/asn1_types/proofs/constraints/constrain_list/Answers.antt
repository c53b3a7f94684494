use Rattle.std.proofs.Common.{refl}
use Rattle.asn1_types.specs.Bounds.{sequence_of, set_of}
use Rattle.asn1_types.proofs.constraints.constrain_list.Goals as goal

pub returns-in-SequenceOf : goal.returns-in-SequenceOf
returns-in-SequenceOf c = sequence_of c.in-SequenceOf.is refl

pub returns-in-SetOf : goal.returns-in-SetOf
returns-in-SetOf c = set_of c.in-SetOf.is refl
