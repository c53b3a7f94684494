use Rattle.std.proofs.Common.{◌+◌, ◌*◌}
use Rattle.examples_proved.proofs.tree.+TreeBERDecodable-decode_ber+fn-TreeBERDecodable-decode_ber-collect_sequence_of.Given as goal

abbrev pub decreases-collect_sequence_of : goal.decreases-collect_sequence_of
decreases-collect_sequence_of l = 2 * l.item.now.levels + 1

abbrev pub decreases-TreeBERDecodable::decode_ber : goal.decreases-TreeBERDecodable::decode_ber
decreases-TreeBERDecodable::decode_ber l = 2 * l.reader.now.levels
