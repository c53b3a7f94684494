use Rattle.std.proofs.Common.{◌≡◌}
use Rattle.asn1_syntax.specs.Tree.{assignments_then, left}
use Rattle.asn1_syntax.proofs.module.assignments.Given as goal

abbrev pub invariant-loop : goal.invariant-loop
invariant-loop l = left l.fn.cursor ≡ assignments_then l.assignments.items (left l.cursor)
