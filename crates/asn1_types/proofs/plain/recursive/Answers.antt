use Rattle.asn1_types.specs.Notations.{by_itself}
use Rattle.asn1_types.proofs.AsTheyCame.{as_under_tag}
use Rattle.asn1_types.proofs.plain.recursive.Goals as goal

pub returns-in_default : goal.returns-in_default
returns-in_default c = record { unchanged = c.note.ensures; notation = by_itself c.in_default.not-Tagged c.elements_of.ensures }

pub returns-clause-notation : goal.returns-clause-notation
returns-clause-notation c =
    as_under_tag c.args.inner.notation.now c.under_tag.result c.in-Tagged.is c.in_ok-number.ensures.class c.under_tag.ensures
