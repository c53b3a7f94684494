use Rattle.std.proofs.Common.{◌+◌}
use Rattle.ldap.proofs.filter_reading.+fn-read_filter-read_parted+read_filter.Given as goal

abbrev pub decreases-read_parted : goal.decreases-read_parted
decreases-read_parted l = l.item.now.levels + l.item.now.levels + 2

abbrev pub decreases-read_filter : goal.decreases-read_filter
decreases-read_filter l = l.reader.now.levels + l.reader.now.levels + 1
