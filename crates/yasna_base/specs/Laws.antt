-- What holds of the grammar, as the laws of this crate say it.
use Rattle.std.specs.Prelude.{◌≡◌, ℕ, List, ◌++◌}
use Rattle.yasna_base.specs.declared.mode.BERMode.{BERMode}
use Rattle.yasna_base.specs.declared.tag.Tag.{Tag}
use Rattle.yasna_base.specs.declared.tag.PCBit.{PCBit}
use Rattle.yasna_base.specs.declared.tag.PCBit.TheVariants.{Primitive}
use Rattle.yasna_base.specs.Grammar.{TaggedGrammar, TaggedMembers, Encoding, Depth}
use Rattle.yasna_base.specs.Identifier.{identifier, AnyTag}
use Rattle.yasna_base.specs.Length.{SpellsLength}
use Rattle.yasna_base.specs.Element.{Element, Primitively}
use Rattle.yasna_base.specs.Coding.{IsCoding, Any}
use Rattle.yasna_base.specs.Canonical.{leaf_depth, IsWritten}

-- identifiers are prefix-free, and determine the tag and the bit
abbrev pub IdentifiersAreUnambiguous : Type 0
IdentifiersAreUnambiguous =
    (t u : Tag) (bit other : PCBit) (r s : List ℕ) → identifier t bit ++ r ≡ identifier u other ++ s → (t ≡ u) × (bit ≡ other) × (r ≡ s)

-- in one mode the spellings of lengths are prefix-free, and determine the length
abbrev pub LengthsAreUnambiguous : Type 0
LengthsAreUnambiguous =
    (m : BERMode) (j k : ℕ) (a b r s : List ℕ) → SpellsLength m j a → SpellsLength m k b → a ++ r ≡ b ++ s →
    (j ≡ k) × (a ≡ b) × (r ≡ s)

-- in one mode primitive elements are prefix-free, and determine the tag and the contents
abbrev pub PrimitiveElementsAreUnambiguous : Type 0
PrimitiveElementsAreUnambiguous =
    (m : BERMode) (t u : Tag) (c d a b r s : List ℕ) → Element m t Primitive c a → Element m u Primitive d b → a ++ r ≡ b ++ s →
    (t ≡ u) × (c ≡ d) × (a ≡ b) × (r ≡ s)

-- A type, which B t m n v b says the bytes b to encode under the tag t, satisfies the laws of reading and of writing under any tag
-- but that of the end of contents
abbrev pub KeepsLawsUnderTags : {A : Type 0} → (A → A → Type 0) → TaggedGrammar A → TaggedMembers → (Tag → Encoding A) → Depth A → (A → Type 0) → Type 0
KeepsLawsUnderTags E B S encoding depth Can =
    AnyTag (λ t. IsCoding E (B t) (S t) × IsWritten E (B t) (encoding t) depth Can)

-- as `KeepsLawsUnderTags`, of a type whose values are equal only where they are one
abbrev pub KeepsLaws : {A : Type 0} → TaggedGrammar A → (Tag → Encoding A) → Depth A → (A → Type 0) → Type 0
KeepsLaws B encoding depth Can = KeepsLawsUnderTags (λ v w. v ≡ w) B (λ t. Any (B t)) encoding depth Can

-- `KeepsLaws` of a type of primitive elements only, whose contents encode v by W
abbrev pub PrimitiveKeepsLaws : {A : Type 0} → (BERMode → A → List ℕ → Type 0) → (Tag → Encoding A) → (A → Type 0) → Type 0
PrimitiveKeepsLaws W encoding Can = KeepsLaws (Primitively W) encoding leaf_depth Can
