use Rattle.std.proofs.Common.{List, length, ◌+◌, ◌≤◌}
use Rattle.yasna_base.specs.Set.{SetPart}
use Rattle.asn1der_convert.specs.Rows.{AreElements}
use Rattle.asn1der_convert.proofs.Rows.{Counted}
use Rattle.asn1der_convert.proofs.elements.count_elements.Given as goal

abbrev pub invariant-loop-rest : goal.invariant-loop-rest
invariant-loop-rest l = record {
  few : l.count + length l.left ≤ length l.elements;
  counted : (ps : List SetPart) → AreElements ps l.elements → Counted ps l.left l.count;
}

abbrev pub decreases-loop-rest : goal.decreases-loop-rest
decreases-loop-rest l = length l.left
