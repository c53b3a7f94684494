use Rattle.asn1_types.proofs.values.+push_identifier.Given as goal

abbrev pub decreases-push_identifier : goal.decreases-push_identifier
decreases-push_identifier l = l.depth
