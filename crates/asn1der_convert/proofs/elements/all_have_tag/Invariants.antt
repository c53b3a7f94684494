use Rattle.std.proofs.Common.{List, length}
use Rattle.yasna_base.specs.Set.{SetPart}
use Rattle.asn1der_convert.specs.Rows.{AreElements}
use Rattle.asn1der_convert.proofs.Rows.{IsLeft, AllTagged}
use Rattle.asn1der_convert.proofs.elements.all_have_tag.Given as goal

abbrev pub invariant-loop-element : goal.invariant-loop-element
invariant-loop-element l = (ps : List SetPart) → AreElements ps l.elements → IsLeft (AllTagged l.tag) ps l.left

abbrev pub decreases-loop-element : goal.decreases-loop-element
decreases-loop-element l = length l.left
