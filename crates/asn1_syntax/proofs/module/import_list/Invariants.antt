use Rattle.std.proofs.Common.{◌≡◌}
use Rattle.asn1_syntax.specs.Tree.{import_list_then, left}
use Rattle.asn1_syntax.proofs.module.import_list.Given as goal

abbrev pub invariant-loop : goal.invariant-loop
invariant-loop l = left l.fn.cursor ≡ import_list_then l.imports.items (left l.cursor)
