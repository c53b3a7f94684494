use Rattle.asn1der_convert.proofs.sorting.+sort_first.Given as goal

abbrev pub decreases-sort_first : goal.decreases-sort_first
decreases-sort_first l = l.count
