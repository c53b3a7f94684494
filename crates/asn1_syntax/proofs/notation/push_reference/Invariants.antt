use Rattle.std.proofs.Common.{◌≡◌}
use Rattle.asn1_syntax.specs.Tree.{left, texts_then}
use Rattle.asn1_syntax.proofs.notation.push_reference.Given as goal

abbrev pub invariant-loop : goal.invariant-loop
invariant-loop l = texts_then l.fn.words.items (left l.fn.cursor) ≡ texts_then l.words.items (left l.cursor)
