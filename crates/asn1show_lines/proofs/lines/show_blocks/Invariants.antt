use Rattle.std.proofs.Common.{◌≡◌, None}
use Rattle.asn1_input.specs.Blocks.{lines_left}
use Rattle.asn1show_lines.specs.Input.{HoldsElements}
use Rattle.asn1_input.specs.declared.input_format.InputFormat.TheVariants.{Pem}
use Rattle.asn1show_walk.specs.WellFormed.{AreElements}
use Rattle.asn1_input.proofs.Cut.{size_left}
use Rattle.asn1_input.proofs.FirstError.{StillHolds}
use Rattle.asn1show_lines.proofs.Meeting.{StillMeets}
use Rattle.asn1show_lines.proofs.lines.show_blocks.Given as goal

-- the input says elements exactly if the lines that are left say what is awaited, unless there was an error, and its conformance is the one that
-- they make of that of the blocks before
abbrev pub invariant-loop-left : goal.invariant-loop-left
invariant-loop-left g l =
    StillHolds (HoldsElements l.mode Pem l.input) (AreElements 101 l.mode) l.first l.reader (lines_left l.left)
    × StillMeets (l.style.view.schema ≡ None) l.mode l.input l.first l.reader (lines_left l.left) l.conformance

abbrev pub decreases-loop-left : goal.decreases-loop-left
decreases-loop-left g l = size_left l.left
