use Rattle.std.proofs.Common.{◌≡◌, ◌≤◌, length, take}
use Rattle.asn1_syntax.specs.Printing.{prepended}
use Rattle.asn1_syntax.specs.Tree.{import_list_then}
use Rattle.asn1_syntax.proofs.printed_module.import_list.Given as goal

abbrev pub invariant-loop-left : goal.invariant-loop-left
invariant-loop-left l = record {
  value : import_list_then l.imports (prepended l.fn.out) ≡ import_list_then (take l.left l.imports) (prepended l.out);
  fits : l.left ≤ length l.imports;
}

abbrev pub decreases-loop-left : goal.decreases-loop-left
decreases-loop-left l = l.left
