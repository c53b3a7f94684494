use Rattle.std.proofs.Common.{refl}
use Rattle.asn1_types.proofs.Adding.{as_enumerated_at, continues_outcome, is_enumeration_inside}
use Rattle.asn1_types.proofs.types.define_enumeration.Goals as goal

pub returns-clause-continues : goal.returns-clause-continues
returns-clause-continues c = continues_outcome c.add_definition.result c.add_definition.ensures.added c.add_definition.ensures.failed
    c.add_definition.ensures.assignment (λ index added. is_enumeration_inside added c.in_ok-items.items c.new-tags.ensures.items refl)

pub returns-clause-enumerated : goal.returns-clause-enumerated
returns-clause-enumerated c = as_enumerated_at _ _ _ _ c.add_definition.result c.add_definition.ensures.added c.in_ok-items.items c.new-tags.ensures.items refl
