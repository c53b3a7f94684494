use Rattle.std.proofs.Common.{◌↔◌, length}
use Rattle.asn1show_printer.specs.Contents.{AreWide, quads}
use Rattle.asn1show_printer.proofs.value.text.are_quads.Given as goal

-- all are characters exactly if those are that are left
abbrev pub invariant-loop-left : goal.invariant-loop-left
invariant-loop-left l = AreWide 4 quads l.octets ↔ AreWide 4 quads l.left

abbrev pub decreases-loop-left : goal.decreases-loop-left
decreases-loop-left l = length l.left
