use Rattle.std.proofs.Common.{length}
use Rattle.asn1_types.proofs.tags_of_types.first_clash.Given as goal

abbrev pub decreases-loop-rest : goal.decreases-loop-rest
decreases-loop-rest l = length l.rest
