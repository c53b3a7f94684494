use Rattle.std.proofs.Common.{◌≡◌, ◌≤◌, length, take}
use Rattle.asn1_syntax.specs.Printing.{prepended}
use Rattle.asn1_syntax.specs.Tree.{assignments_then}
use Rattle.asn1_syntax.proofs.printed_module.assignments.Given as goal

abbrev pub invariant-loop-left : goal.invariant-loop-left
invariant-loop-left l = record {
  value : assignments_then l.assignments (prepended l.fn.out) ≡ assignments_then (take l.left l.assignments) (prepended l.out);
  fits : l.left ≤ length l.assignments;
}

abbrev pub decreases-loop-left : goal.decreases-loop-left
decreases-loop-left l = l.left
