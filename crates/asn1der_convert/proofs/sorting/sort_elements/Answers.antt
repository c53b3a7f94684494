use Rattle.asn1der_convert.proofs.Weaving.{sorts_all}
use Rattle.asn1der_convert.proofs.sorting.sort_elements.Goals as goal

pub returns-clause-sorted : goal.returns-clause-sorted
returns-clause-sorted c =
    sorts_all c.args.key c.count_elements-count.result _ c.args.elements.now c.sort_first.new.elements c.count_elements-count.ensures.count c.in_ok-sort_first.ensures.sorted
