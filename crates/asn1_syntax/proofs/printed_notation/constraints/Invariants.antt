use Rattle.std.proofs.Common.{◌≡◌, ◌≤◌, length, take}
use Rattle.asn1_syntax.specs.Printing.{prepended}
use Rattle.asn1_syntax.specs.Tree.{constraints_then}
use Rattle.asn1_syntax.proofs.printed_notation.constraints.Given as goal

abbrev pub invariant-loop-left : goal.invariant-loop-left
invariant-loop-left l = record {
  value : constraints_then l.constraints (prepended l.fn.out) ≡ constraints_then (take l.left l.constraints) (prepended l.out);
  fits : l.left ≤ length l.constraints;
}

abbrev pub decreases-loop-left : goal.decreases-loop-left
decreases-loop-left l = l.left
