use Rattle.std.proofs.Common.{◌+◌}
use Rattle.tests_yasna.proofs.tree.+fn-read_nested-read_sequence+read_nested.Given as goal

abbrev pub decreases-read_sequence : goal.decreases-read_sequence
decreases-read_sequence l = l.below + l.below + 1

abbrev pub decreases-read_nested : goal.decreases-read_nested
decreases-read_nested l = l.depth + l.depth
