use Rattle.asn1_types.proofs.cores.assigned_type.Goals as goal

pub returns-clause-assigned : goal.returns-clause-assigned
returns-clause-assigned c = record {
  there = c.in_ok-assignment_at.field-0.now;
  is = c.in_ok-assignment_at.ensures;
  assigns = c.in_ok-notation.ensures;
}
