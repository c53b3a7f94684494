use Rattle.std.proofs.Common.{◌≡◌}
use Rattle.asn1_syntax.specs.Tree.{left, texts_then}
use Rattle.asn1_syntax.proofs.cursor.Cursor.push_inside.Given as goal

abbrev pub invariant-loop : goal.invariant-loop
invariant-loop l = texts_then l.fn.tokens.items (left l.fn.self) ≡ texts_then l.tokens.items (left l.self)
