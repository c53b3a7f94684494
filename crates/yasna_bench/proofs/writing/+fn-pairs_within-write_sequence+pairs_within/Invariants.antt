use Rattle.std.proofs.Common.{◌+◌}
use Rattle.yasna_bench.proofs.writing.+fn-pairs_within-write_sequence+pairs_within.Given as goal

abbrev pub decreases-write_sequence : goal.decreases-write_sequence
decreases-write_sequence l = l.below + l.below + 1

abbrev pub decreases-pairs_within : goal.decreases-pairs_within
decreases-pairs_within l = l.depth + l.depth
