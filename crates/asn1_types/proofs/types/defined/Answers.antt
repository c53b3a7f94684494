use Rattle.asn1_types.proofs.Adding.{continues_with_body, unchanged_then}
use Rattle.asn1_types.proofs.types.defined.Goals as goal

pub returns : goal.returns
returns c = continues_with_body (unchanged_then c.note_constraints.ensures c.take_looser-looser.ensures) c.requires.assigned c.requires.place
    c.add_definition.ensures.assignment c.in_ok-index.ensures.added c.is_choice.result c.is_choice.ensures c.in_ok-tags.ensures c.requires.body
