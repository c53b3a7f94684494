use Rattle.std.proofs.Common.{◌≡◌}
use Rattle.asn1_syntax.specs.Tree.{names_then, left}
use Rattle.asn1_syntax.proofs.module.other_names.Given as goal

abbrev pub invariant-loop : goal.invariant-loop
invariant-loop l = left l.fn.cursor ≡ names_then l.names.items (left l.cursor)
