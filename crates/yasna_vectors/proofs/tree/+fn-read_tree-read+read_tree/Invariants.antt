use Rattle.std.proofs.Common.{◌+◌, ◌*◌}
use Rattle.yasna_vectors.proofs.tree.+fn-read_tree-read+read_tree.Given as goal

abbrev pub decreases-read : goal.decreases-read
decreases-read l = 2 * l.inner.now.levels + 1

abbrev pub decreases-read_tree : goal.decreases-read_tree
decreases-read_tree l = 2 * l.reader.now.levels
