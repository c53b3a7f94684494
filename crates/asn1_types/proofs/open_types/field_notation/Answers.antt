use Rattle.std.proofs.Common.{refl}
use Rattle.asn1_types.specs.Notations.{integer_field}
use Rattle.asn1_types.proofs.open_types.field_notation.Goals as goal

pub returns-in-Some-Integer : goal.returns-in-Some-Integer
returns-in-Some-Integer c = integer_field refl
