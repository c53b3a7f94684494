use Rattle.std.proofs.Common.{◌≡◌, ◌+◌, ◌*◌, None, take, length, map}
use Rattle.yasna_base.specs.SequenceOf.{elements_encoding}
use Rattle.ldap.specs.Filters.{the_filter, depth_of, largest}
use Rattle.ldap.proofs.filter_lengths.+filter_lengths.Given as goal

abbrev pub decreases-filter_len : goal.decreases-filter_len
decreases-filter_len l = 4 * depth_of l.value.now + 1

abbrev pub decreases-negated_len : goal.decreases-negated_len
decreases-negated_len l = 4 * depth_of l.negated.now + 2

abbrev pub decreases-group_len : goal.decreases-group_len
decreases-group_len l = 4 * largest (map depth_of l.filters.now) + 3

abbrev pub decreases-filters_len : goal.decreases-filters_len
decreases-filters_len l = 4 * largest (map depth_of l.filters.now) + 2

abbrev pub invariant-filters_len-loop-filter : goal.invariant-filters_len-loop-filter
invariant-filters_len-loop-filter l = l.total ≡ length (elements_encoding (the_filter.encoding_under None) l.mode (take l.filter-index l.filters))
