use Rattle.std.proofs.Common.{◌+◌}
use Rattle.yasna_bench.proofs.reading.+fn-nested_within-read_sequence+nested_within.Given as goal

abbrev pub decreases-read_sequence : goal.decreases-read_sequence
decreases-read_sequence l = l.below + l.below + 1

abbrev pub decreases-nested_within : goal.decreases-nested_within
decreases-nested_within l = l.depth + l.depth
