use Rattle.std.proofs.Common.{◌↔◌}
use Rattle.asn1_input.specs.Blocks.{lines_left}
use Rattle.asn1_input.specs.Input.{HasBoundary, BeginsAfterText}
use Rattle.asn1_input.proofs.Cut.{size_left}
use Rattle.asn1_input.proofs.input_format.has_block.Given as goal

-- a block begins after text exactly if it does in the lines that are left
abbrev pub invariant-loop-left : goal.invariant-loop-left
invariant-loop-left l = BeginsAfterText l.input ↔ HasBoundary (lines_left l.left)

abbrev pub decreases-loop-left : goal.decreases-loop-left
decreases-loop-left l = size_left l.left
