use Rattle.std.proofs.Common.{◌+◌}
use Rattle.yasna_vectors.proofs.rejecting_closures.+Calls-write_within+fn-Calls-write_within-part+fn-Calls-write_within-whole.Given as goal

abbrev pub decreases-Calls::write_within : goal.decreases-Calls::write_within
decreases-Calls::write_within l = l.depth + l.depth

abbrev pub decreases-part : goal.decreases-part
decreases-part l = l.below + l.below + 1

abbrev pub decreases-whole : goal.decreases-whole
decreases-whole l = l.below + l.below + 1
