use Rattle.std.proofs.Common.{◌≡◌}
use Rattle.asn1_syntax.specs.Tree.{left, texts_then}
use Rattle.asn1_syntax.proofs.notation.value.Given as goal

abbrev pub invariant-loop : goal.invariant-loop
invariant-loop l = left l.fn.cursor ≡ texts_then l.tokens.items (left l.cursor)
