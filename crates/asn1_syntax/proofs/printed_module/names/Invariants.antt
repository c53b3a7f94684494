use Rattle.std.proofs.Common.{◌≡◌, ◌≤◌, length, take}
use Rattle.asn1_syntax.specs.Printing.{prepended}
use Rattle.asn1_syntax.specs.Tree.{names_then}
use Rattle.asn1_syntax.proofs.printed_module.names.Given as goal

abbrev pub invariant-loop-left : goal.invariant-loop-left
invariant-loop-left l = record {
  value : names_then l.names (prepended l.fn.out) ≡ names_then (take l.left l.names) (prepended l.out);
  fits : l.left ≤ length l.names;
}

abbrev pub decreases-loop-left : goal.decreases-loop-left
decreases-loop-left l = l.left
