use Rattle.std.proofs.Common.{length}
use Rattle.asn1show_printer.specs.Pieces.{piece_of}
use Rattle.asn1show_printer.proofs.Pieces.{CutFrom}
use Rattle.asn1show_printer.proofs.sets.are_cer_segments.Given as goal

abbrev pub invariant-loop-next : goal.invariant-loop-next
invariant-loop-next l = CutFrom l.contents (piece_of l.segment) l.left l.is_cut

abbrev pub decreases-loop-next : goal.decreases-loop-next
decreases-loop-next l = length l.left
