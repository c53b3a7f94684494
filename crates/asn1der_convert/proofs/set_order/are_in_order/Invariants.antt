use Rattle.std.proofs.Common.{List, length}
use Rattle.yasna_base.specs.Set.{SetPart}
use Rattle.asn1der_convert.specs.Rows.{AreElements}
use Rattle.asn1der_convert.specs.SetOrder.{InOrder}
use Rattle.asn1der_convert.proofs.Rows.{OrderLeft}
use Rattle.asn1der_convert.proofs.set_order.are_in_order.Given as goal

abbrev pub invariant-loop-element : goal.invariant-loop-element
invariant-loop-element l = (ps : List SetPart) → AreElements ps l.elements → OrderLeft (InOrder l.order) ps l.last l.left

abbrev pub decreases-loop-element : goal.decreases-loop-element
decreases-loop-element l = length l.left
