use Rattle.std.proofs.Common.{◌≡◌, length}
use Rattle.yasna_base.specs.Order.{octets_cmp}
use Rattle.yasna_base.proofs.bytes.order.compare_octets.Given as goal

-- what is left compares as the whole
abbrev pub invariant-loop-x : goal.invariant-loop-x
invariant-loop-x l = octets_cmp l.left l.right ≡ octets_cmp l.a l.b

abbrev pub decreases-loop-x : goal.decreases-loop-x
decreases-loop-x l = length l.left
