use Rattle.std.proofs.Common.{refl}
use Rattle.asn1_types.specs.Notations.{of_body, of_list, of_other}
use Rattle.asn1_types.proofs.AsTheyCame.{as_elements, elements_same}
use Rattle.asn1_types.proofs.plain.elements_of.Goals as goal

pub returns-in-ListOf : goal.returns-in-ListOf
returns-in-ListOf c = as_elements c.untagged.ensures (of_list c.in-ListOf.is (elements_same c.elements_by.ensures c.is.ensures refl))

pub returns-in-Constructed : goal.returns-in-Constructed
returns-in-Constructed c =
    as_elements c.untagged.ensures
    (of_body c.in-Constructed.field-1 c.in-Constructed.is (elements_same c.elements_by-in-Constructed.ensures c.is-in-Constructed.ensures c.is-in-Constructed-2.ensures))

pub returns-in_default : goal.returns-in_default
returns-in_default c = as_elements c.untagged.ensures (of_other c.in_default.not-ListOf c.in_default.not-Constructed refl)
