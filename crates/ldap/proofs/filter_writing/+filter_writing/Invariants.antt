use Rattle.std.proofs.Common.{◌+◌, ◌*◌, map}
use Rattle.ldap.specs.Filters.{depth_of, largest}
use Rattle.ldap.proofs.filter_writing.+filter_writing.Given as goal

abbrev pub decreases-write_filters-write_group : goal.decreases-write_filters-write_group
decreases-write_filters-write_group l = 8 * depth_of l.item.now + 3

abbrev pub decreases-write_negated-write_tagged : goal.decreases-write_negated-write_tagged
decreases-write_negated-write_tagged l = 8 * depth_of l.negated.now + 3

abbrev pub decreases-write_element : goal.decreases-write_element
decreases-write_element l = 8 * depth_of l.item.now + 2

abbrev pub decreases-write_filter : goal.decreases-write_filter
decreases-write_filter l = 8 * depth_of l.value.now + 1

abbrev pub decreases-write_filters : goal.decreases-write_filters
decreases-write_filters l = 8 * largest (map depth_of l.filters.now) + 4

abbrev pub decreases-write_negated : goal.decreases-write_negated
decreases-write_negated l = 8 * depth_of l.negated.now + 4
