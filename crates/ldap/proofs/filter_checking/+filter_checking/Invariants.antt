use Rattle.std.proofs.Common.{◌+◌, ◌*◌, take, map}
use Rattle.std.specs.List.{AllByRecursion}
use Rattle.ldap.specs.Filters.{the_filter, depth_of, largest}
use Rattle.ldap.proofs.filter_checking.+filter_checking.Given as goal

abbrev pub decreases-accepts_filter : goal.decreases-accepts_filter
decreases-accepts_filter l = 4 * depth_of l.value.now + 1

abbrev pub decreases-accepts_group : goal.decreases-accepts_group
decreases-accepts_group l = 4 * largest (map depth_of l.filters.now) + 3

abbrev pub decreases-accepts_each : goal.decreases-accepts_each
decreases-accepts_each l = 4 * largest (map depth_of l.filters.now) + 2

abbrev pub invariant-accepts_each-loop-filter : goal.invariant-accepts_each-loop-filter
invariant-accepts_each-loop-filter l = AllByRecursion the_filter.can (take l.filter-index l.filters)
