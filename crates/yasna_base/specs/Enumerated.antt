-- ENUMERATED: as INTEGER, but for its tag (X.690, 8.4).
use Rattle.yasna_base.specs.declared.tag.Tag.{Tag}
use Rattle.std.specs.Prelude.{ℤ, FitsSigned}
use Rattle.std.specs.Int.{w64}
use Rattle.yasna_base.specs.Grammar.{Grammar}
use Rattle.yasna_base.specs.Identifier.{universal}
use Rattle.yasna_base.specs.Element.{Primitively}
use Rattle.yasna_base.specs.Integer.{IsSigned, integer_encoding}
use Rattle.yasna_base.specs.Laws.{PrimitiveKeepsLaws}

-- the tag of ENUMERATED
abbrev pub enumerated_tag : Tag
enumerated_tag = universal 10

-- the type's grammar under its own tag
abbrev pub EncodesEnumerated : Grammar ℤ
EncodesEnumerated = Primitively (IsSigned w64) enumerated_tag

-- ENUMERATED satisfies the laws under any tag
abbrev pub EnumeratedKeepsLaws : Type 0
EnumeratedKeepsLaws = PrimitiveKeepsLaws (IsSigned w64) integer_encoding (FitsSigned w64)
