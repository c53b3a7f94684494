use Rattle.std.proofs.Common.{List, length}
use Rattle.yasna_base.specs.Set.{SetPart}
use Rattle.asn1der_convert.specs.Rows.{AreElements}
use Rattle.asn1der_convert.proofs.Agreements.{Undecided}
use Rattle.asn1der_convert.proofs.agreement.is_order_known.Given as goal

abbrev pub invariant-loop-element : goal.invariant-loop-element
invariant-loop-element l = (ps : List SetPart) → AreElements ps l.elements → Undecided ps l.all.items l.left

abbrev pub decreases-loop-element : goal.decreases-loop-element
decreases-loop-element l = length l.left
