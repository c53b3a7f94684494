-- The bytes of an element with a definite length, as the first of those from its start on.
use Rattle.std.proofs.Common.{◌≤◌, ◌+◌, ℕ, List, Some, length, drop, sym}
use Rattle.std.proofs.Math.ListN.{take}
use Rattle.std.proofs.lemmas.List.{length-take-le, take-append-drop}
use Rattle.yasna_base.specs.declared.mode.BERMode.{BERMode}
use Rattle.asn1show_printer.specs.Selection.{IsWholeAt}

pub whole_of_take : (m : BERMode) (s : List ℕ) (h n : ℕ) → h + n ≤ length s → IsWholeAt m s h (Some n) (take (h + n) s)
whole_of_take m s h n le = record {
  rest = drop (h + n) s;
  joined = sym (take-append-drop (h + n) s);
  is_whole = length-take-le (h + n) s le;
}
