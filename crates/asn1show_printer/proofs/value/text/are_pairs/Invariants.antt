use Rattle.std.proofs.Common.{◌↔◌, length}
use Rattle.asn1show_printer.specs.Contents.{AreWide, pairs}
use Rattle.asn1show_printer.proofs.value.text.are_pairs.Given as goal

-- all are characters exactly if those are that are left
abbrev pub invariant-loop-left : goal.invariant-loop-left
invariant-loop-left l = AreWide 2 pairs l.octets ↔ AreWide 2 pairs l.left

abbrev pub decreases-loop-left : goal.decreases-loop-left
decreases-loop-left l = length l.left
