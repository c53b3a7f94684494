-- Texts of lexical items, collected from the last one to the first one.
use Rattle.std.specs.Prelude.{map, reverse}
use Rattle.asn1_syntax.specs.declared.prepended.Prepended.{Prepended}
use Rattle.asn1_syntax.specs.Tree.{Texts}

-- the texts in their order
abbrev pub prepended : Prepended → Texts
prepended p = map (λ text. text.now) (reverse p.reversed.items)
