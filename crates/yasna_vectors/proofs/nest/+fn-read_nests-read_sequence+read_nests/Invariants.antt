use Rattle.std.proofs.Common.{◌+◌, ◌*◌}
use Rattle.yasna_vectors.proofs.nest.+fn-read_nests-read_sequence+read_nests.Given as goal

abbrev pub decreases-read_sequence : goal.decreases-read_sequence
decreases-read_sequence l = 2 * l.seq.now.reader.levels + 1

abbrev pub decreases-read_nests : goal.decreases-read_nests
decreases-read_nests l = 2 * l.reader.now.levels
