use Rattle.std.proofs.Common.{◌≡◌}
use Rattle.asn1_syntax.specs.Tree.{modules_then, left}
use Rattle.asn1_syntax.proofs.module.modules.Given as goal

abbrev pub invariant-loop : goal.invariant-loop
invariant-loop l = left l.fn.cursor ≡ modules_then l.modules.items (left l.cursor)
