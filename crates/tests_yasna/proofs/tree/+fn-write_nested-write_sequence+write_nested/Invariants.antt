use Rattle.std.proofs.Common.{◌+◌}
use Rattle.tests_yasna.proofs.tree.+fn-write_nested-write_sequence+write_nested.Given as goal

abbrev pub decreases-write_sequence : goal.decreases-write_sequence
decreases-write_sequence l = l.below + l.below + 1

abbrev pub decreases-write_nested : goal.decreases-write_nested
decreases-write_nested l = l.depth + l.depth
