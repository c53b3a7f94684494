use Rattle.std.proofs.Common.{◌∙◌, ap}
use Rattle.std.proofs.lemmas.Bool.{eqb-true}
use Rattle.asn1_types.proofs.types.is_defined_at.Goals as goal

pub returns : goal.returns
returns c = λ same. record {
  definition = c.in-Some.definition.now;
  there = c.in-Some-assignment_at.assignment.now;
  defined = c.in-Some.ensures {u = tt};
  assigned = c.in-Some-assignment_at.ensures {u = tt};
  «module» = c.if-definition-place-2.false;
  offset = eqb-true c.in-Some.definition.now.place.offset c.assigned_name.result.offset same ∙ ap (λ token. token.offset) c.assigned_name.ensures;
  assignment = c.if-definition-place.false;
}
