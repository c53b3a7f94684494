use Rattle.std.proofs.Common.{◌+◌}
use Rattle.yasna_bench.proofs.writing.+fn-nested_within-write_sequence+nested_within.Given as goal

abbrev pub decreases-write_sequence : goal.decreases-write_sequence
decreases-write_sequence l = l.below + l.below + 1

abbrev pub decreases-nested_within : goal.decreases-nested_within
decreases-nested_within l = l.depth + l.depth
