-- NULL (X.690, 8.8).
use Rattle.std.specs.Prelude.{◌≡◌, ℕ, List, []}
use Rattle.yasna_base.specs.declared.mode.BERMode.{BERMode}
use Rattle.yasna_base.specs.declared.tag.Tag.{Tag}
use Rattle.yasna_base.specs.declared.tag.PCBit.TheVariants.{Primitive}
use Rattle.yasna_base.specs.Grammar.{Grammar, Encoding}
use Rattle.yasna_base.specs.Identifier.{universal}
use Rattle.yasna_base.specs.Element.{Primitively}
use Rattle.yasna_base.specs.Canonical.{canonical_element, Always}
use Rattle.yasna_base.specs.Laws.{PrimitiveKeepsLaws}

-- the tag of NULL
abbrev pub null_tag : Tag
null_tag = universal 5

-- no contents
abbrev pub IsNull : BERMode → Unit {0} → List ℕ → Type 0
IsNull m v c = c ≡ []

-- the type's grammar under its own tag
abbrev pub EncodesNull : Grammar (Unit {0})
EncodesNull = Primitively IsNull null_tag

-- the encoding in a canonical mode
abbrev pub null_encoding : Tag → Encoding (Unit {0})
null_encoding t m v = canonical_element m t Primitive []

-- NULL satisfies the laws under any tag
abbrev pub NullKeepsLaws : Type 0
NullKeepsLaws = PrimitiveKeepsLaws IsNull null_encoding Always
