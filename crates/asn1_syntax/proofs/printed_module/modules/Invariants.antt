use Rattle.std.proofs.Common.{◌≡◌, ◌≤◌, length, take}
use Rattle.asn1_syntax.specs.Printing.{prepended}
use Rattle.asn1_syntax.specs.Tree.{modules_then}
use Rattle.asn1_syntax.proofs.printed_module.modules.Given as goal

abbrev pub invariant-loop-left : goal.invariant-loop-left
invariant-loop-left l = record {
  value : modules_then l.modules (prepended l.fn.out) ≡ modules_then (take l.left l.modules) (prepended l.out);
  fits : l.left ≤ length l.modules;
}

abbrev pub decreases-loop-left : goal.decreases-loop-left
decreases-loop-left l = l.left
