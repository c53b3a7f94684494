use Rattle.asn1_input.proofs.Cut.{size_left}
use Rattle.asn1der.proofs.input.take_blocks.Given as goal

abbrev pub decreases-loop-left : goal.decreases-loop-left
decreases-loop-left l = size_left l.left
