use Rattle.std.proofs.Common.{◌+◌}
use Rattle.yasna_vectors.proofs.nest.+fn-read_within-read_sequence+read_within.Given as goal

abbrev pub decreases-read_sequence : goal.decreases-read_sequence
decreases-read_sequence l = l.below + l.below + 1

abbrev pub decreases-read_within : goal.decreases-read_within
decreases-read_within l = l.depth + l.depth
