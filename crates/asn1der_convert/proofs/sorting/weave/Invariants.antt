use Rattle.std.proofs.Common.{◌≡◌, List, length, drop, ◌+◌, ◌-◌, ◌≤◌}
use Rattle.yasna_base.specs.Set.{SetPart}
use Rattle.asn1der_convert.specs.Rows.{AreElements}
use Rattle.asn1der_convert.specs.SetOrder.{sorted_by}
use Rattle.asn1der_convert.proofs.Weaving.{Woven}
use Rattle.asn1der_convert.proofs.sorting.weave.Given as goal

abbrev pub invariant-loop-first : goal.invariant-loop-first
invariant-loop-first l = record {
  room : l.from ≡ l.place + length l.left;
  within : l.from ≤ length l.elements;
  long : length l.elements ≡ length l.initial.elements;
  woven : (us vs : List SetPart) → AreElements (sorted_by l.key us) l.others → AreElements (sorted_by l.key vs) (drop (length l.others) l.initial.elements) →
      Woven l.key us vs l.elements l.left l.place l.from;
}

abbrev pub decreases-loop-first : goal.decreases-loop-first
decreases-loop-first l = length l.left + (length l.elements - l.from)
