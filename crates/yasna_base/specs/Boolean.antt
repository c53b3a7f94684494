-- BOOLEAN (X.690, 8.2 and 11.1).
use Rattle.std.specs.Prelude.{◌≡◌, ℕ, List, [], ◌∷◌, Bool}
use Rattle.yasna_base.specs.declared.mode.BERMode.{BERMode}
use Rattle.yasna_base.specs.declared.mode.BERMode.TheVariants.{Ber, Der, Cer}
use Rattle.yasna_base.specs.declared.tag.Tag.{Tag}
use Rattle.yasna_base.specs.declared.tag.PCBit.TheVariants.{Primitive}
use Rattle.yasna_base.specs.Digits.{IsBytes}
use Rattle.yasna_base.specs.Grammar.{Grammar, Encoding}
use Rattle.yasna_base.specs.Identifier.{universal}
use Rattle.yasna_base.specs.Element.{Primitively}
use Rattle.yasna_base.specs.Canonical.{canonical_element, Always}
use Rattle.yasna_base.specs.Laws.{PrimitiveKeepsLaws}

-- the tag of BOOLEAN
abbrev pub boolean_tag : Tag
boolean_tag = universal 1

-- any byte but 0 is true in BER, only 255 in DER and CER
abbrev pub EncodesTrue : BERMode → ℕ → Type 0
EncodesTrue Ber x = x ≡ 0 → ⊥
EncodesTrue Der x = x ≡ 255
EncodesTrue Cer x = x ≡ 255

-- the contents c say v in one byte
pub data IsBoolean (m : BERMode) (v : Bool) (c : List ℕ) : Type 0 where
  encodes_false : v ≡ Bool.false → c ≡ 0 ∷ [] → IsBoolean m v c
  encodes_true : (x : ℕ) → EncodesTrue m x → IsBytes (x ∷ []) → v ≡ Bool.true → c ≡ x ∷ [] → IsBoolean m v c

-- the type's grammar under its own tag
abbrev pub EncodesBoolean : Grammar Bool
EncodesBoolean = Primitively IsBoolean boolean_tag

-- the one byte that is written
abbrev pub boolean_byte : Bool → ℕ
boolean_byte Bool.false = 0
boolean_byte Bool.true = 255

-- the encoding in a canonical mode
abbrev pub boolean_encoding : Tag → Encoding Bool
boolean_encoding t m v = canonical_element m t Primitive (boolean_byte v ∷ [])

-- BOOLEAN satisfies the laws under any tag
abbrev pub BooleanKeepsLaws : Type 0
BooleanKeepsLaws = PrimitiveKeepsLaws IsBoolean boolean_encoding Always
