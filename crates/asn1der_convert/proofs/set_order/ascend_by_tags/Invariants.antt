use Rattle.std.proofs.Common.{List, length}
use Rattle.yasna_base.specs.Set.{SetPart}
use Rattle.asn1der_convert.specs.Rows.{AreElements}
use Rattle.asn1der_convert.specs.SetOrder.{AscendByTags}
use Rattle.asn1der_convert.proofs.Rows.{OrderLeft}
use Rattle.asn1der_convert.proofs.set_order.ascend_by_tags.Given as goal

abbrev pub invariant-loop-element : goal.invariant-loop-element
invariant-loop-element l = (ps : List SetPart) → AreElements ps l.elements → OrderLeft AscendByTags ps l.last l.left

abbrev pub decreases-loop-element : goal.decreases-loop-element
decreases-loop-element l = length l.left
