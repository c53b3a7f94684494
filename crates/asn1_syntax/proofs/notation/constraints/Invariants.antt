use Rattle.std.proofs.Common.{◌≡◌}
use Rattle.asn1_syntax.specs.Tree.{constraints_then, left}
use Rattle.asn1_syntax.proofs.notation.constraints.Given as goal

abbrev pub invariant-loop : goal.invariant-loop
invariant-loop l = left l.fn.cursor ≡ constraints_then l.constraints.items (left l.cursor)
