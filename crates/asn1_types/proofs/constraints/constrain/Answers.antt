use Rattle.std.proofs.Common.{refl}
use Rattle.asn1_types.specs.Bounds.{bit_string, integer, named_bits, octet_string, sequence_of, set_of, text}
use Rattle.asn1_types.proofs.constraints.constrain.Goals as goal

pub returns-in-Integer : goal.returns-in-Integer
returns-in-Integer c = integer c.in-Integer.is refl

pub returns-in-NamedBits : goal.returns-in-NamedBits
returns-in-NamedBits c = named_bits c.in-NamedBits.is refl

pub returns-in-Text : goal.returns-in-Text
returns-in-Text c = text c.in-Text.is refl

pub returns-in-OctetString : goal.returns-in-OctetString
returns-in-OctetString c = octet_string c.in-OctetString.is refl

pub returns-in-BitString : goal.returns-in-BitString
returns-in-BitString c = bit_string c.in-BitString.is refl

pub returns-in-SequenceOf : goal.returns-in-SequenceOf
returns-in-SequenceOf c = sequence_of c.in-SequenceOf.is refl

pub returns-in-SetOf : goal.returns-in-SetOf
returns-in-SetOf c = set_of c.in-SetOf.is refl
