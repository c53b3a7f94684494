use Rattle.std.proofs.Common.{refl, ⊎_elim}
use Rattle.asn1_types.specs.Notations.{any, bit_string, boolean, elements_under, generalized_time, integer, named_bits, null, object_identifier, octet_string, octets_under, text, utc_time}
use Rattle.asn1_types.proofs.plain.notation_of.Goals as goal

pub returns-in-Boolean : goal.returns-in-Boolean
returns-in-Boolean c = λ other. boolean c.in-Boolean.is refl

pub returns-in-Null : goal.returns-in-Null
returns-in-Null c = λ other. null c.in-Null.is refl

pub returns-in-Integer : goal.returns-in-Integer
returns-in-Integer c = λ other. integer c.in-Integer.is refl

pub returns-in-ObjectIdentifier : goal.returns-in-ObjectIdentifier
returns-in-ObjectIdentifier c = λ other. object_identifier c.in-ObjectIdentifier.is refl

pub returns-in-OctetString : goal.returns-in-OctetString
returns-in-OctetString c = λ other. octet_string c.in-OctetString.is refl

pub returns-in-BitString : goal.returns-in-BitString
returns-in-BitString c = λ other. named_bits c.in-BitString.is refl

pub returns-in-BitString-2 : goal.returns-in-BitString-2
returns-in-BitString-2 c = λ other. bit_string c.in-BitString-2.is refl

pub returns-in-Text : goal.returns-in-Text
returns-in-Text c = λ other. text c.in-Text.is refl

pub returns-in-UtcTime : goal.returns-in-UtcTime
returns-in-UtcTime c = λ other. utc_time c.in-UtcTime.is refl

pub returns-in-GeneralizedTime : goal.returns-in-GeneralizedTime
returns-in-GeneralizedTime c = λ other. generalized_time c.in-GeneralizedTime.is refl

pub returns-in-Octets : goal.returns-in-Octets
returns-in-Octets c = λ other. octets_under c.in-Octets.is refl

pub returns-in-Elements : goal.returns-in-Elements
returns-in-Elements c = λ other. elements_under c.in-Elements.is refl

pub returns-in-Any : goal.returns-in-Any
returns-in-Any c = λ other. ⊎_elim (λ is. any is refl) (λ is. absurd (other is)) c.in-Any.is
