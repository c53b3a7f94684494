use Rattle.std.proofs.Common.{◌≡◌, ◌≤◌, ◌+◌, ◌*◌, ◌++◌, None, length, map}
use Rattle.std.specs.List.{AllByRecursion}
use Rattle.yasna_base.specs.SequenceOf.{elements_encoding}
use Rattle.yasna_writer.specs.Prepend.{with_prefix}
use Rattle.yasna_writer.specs.PartOrder.{part_lens}
use Rattle.ldap.specs.Filters.{the_filter, depth_of, largest}
use Rattle.ldap.proofs.filter_prepending.+filter_prepending.Given as goal

abbrev pub decreases-prepend_filter : goal.decreases-prepend_filter
decreases-prepend_filter l = 4 * depth_of l.value.now + 1

abbrev pub decreases-prepend_negated : goal.decreases-prepend_negated
decreases-prepend_negated l = 4 * depth_of l.negated.now + 2

abbrev pub decreases-prepend_group : goal.decreases-prepend_group
decreases-prepend_group l = 4 * largest (map depth_of l.filters.now) + 4

abbrev pub decreases-prepend_ordered : goal.decreases-prepend_ordered
decreases-prepend_ordered l = 4 * largest (map depth_of l.filters.now) + 3

abbrev pub decreases-prepend_elements : goal.decreases-prepend_elements
decreases-prepend_elements l = 4 * largest (map depth_of l.filters.now) + 2

-- what was prepended, and the rest, are all, and so are their lengths
abbrev pub invariant-prepend_elements-loop-last : goal.invariant-prepend_elements-loop-last
invariant-prepend_elements-loop-last l = record {
  can : AllByRecursion the_filter.can l.rest;
  deep : AllByRecursion (λ f. depth_of f ≤ largest (map depth_of l.filters)) l.rest;
  all : with_prefix (elements_encoding (the_filter.encoding_under None) l.out.mode l.rest) l.out
      ≡ with_prefix (elements_encoding (the_filter.encoding_under None) l.fn.out.mode l.filters) l.fn.out;
  noted : l.lens.items ++ part_lens (the_filter.encoding_under None) l.out.mode l.rest
      ≡ part_lens (the_filter.encoding_under None) l.fn.out.mode l.filters;
}

abbrev pub decreases-prepend_elements-loop-last : goal.decreases-prepend_elements-loop-last
decreases-prepend_elements-loop-last l = length l.rest
