use Rattle.std.proofs.Common.{length}
use Rattle.asn1show_printer.specs.Pieces.{piece_of}
use Rattle.asn1show_printer.proofs.Pieces.{AscendsFrom}
use Rattle.asn1show_printer.proofs.sets.are_in_order.Given as goal

abbrev pub invariant-loop-next : goal.invariant-loop-next
invariant-loop-next l = AscendsFrom l.order l.contents (piece_of l.last) l.left

abbrev pub decreases-loop-next : goal.decreases-loop-next
decreases-loop-next l = length l.left
