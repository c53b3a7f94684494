use Rattle.std.proofs.Common.{◌≡◌, ◌≤◌, length, take}
use Rattle.asn1_syntax.specs.Printing.{prepended}
use Rattle.asn1_syntax.specs.Tree.{texts_then}
use Rattle.asn1_syntax.proofs.prepended.Prepended.tokens.Given as goal

abbrev pub invariant-loop-left : goal.invariant-loop-left
invariant-loop-left l = record {
  value : texts_then l.tokens (prepended l.fn.self) ≡ texts_then (take l.left l.tokens) (prepended l.self);
  fits : l.left ≤ length l.tokens;
}

abbrev pub decreases-loop-left : goal.decreases-loop-left
decreases-loop-left l = l.left
