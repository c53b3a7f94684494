use Rattle.std.proofs.Common.{◌+◌}
use Rattle.yasna_vectors.proofs.nest.+fn-write_within-write_sequence+write_within.Given as goal

abbrev pub decreases-write_sequence : goal.decreases-write_sequence
decreases-write_sequence l = l.below + l.below + 1

abbrev pub decreases-write_within : goal.decreases-write_within
decreases-write_within l = l.depth + l.depth
