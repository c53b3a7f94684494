-- OBJECT IDENTIFIER (X.690, 8.19). An object identifier is the list of its components.
use Rattle.std.specs.Prelude.{◌≡◌, ℕ, ◌+◌, ◌*◌, ◌^◌, ◌<◌, ◌≤◌, List, [], ◌∷◌}
use Rattle.std.specs.List.{flat_map, AllByRecursion}
use Rattle.yasna_base.specs.declared.mode.BERMode.{BERMode}
use Rattle.yasna_base.specs.declared.tag.Tag.{Tag}
use Rattle.yasna_base.specs.declared.tag.PCBit.TheVariants.{Primitive}
use Rattle.yasna_base.specs.Canonical.{canonical_element}
use Rattle.yasna_base.specs.Digits.{base128}
use Rattle.yasna_base.specs.Element.{Primitively}
use Rattle.yasna_base.specs.Grammar.{Grammar, Encoding}
use Rattle.yasna_base.specs.Identifier.{universal}
use Rattle.yasna_base.specs.Laws.{PrimitiveKeepsLaws}

-- the tag of OBJECT IDENTIFIER
abbrev pub oid_tag : Tag
oid_tag = universal 6

-- the first two components: there are three roots, and forty arcs below each of the first two; below the third they end
-- where both components together pass 64 bits
pub record AreFirstTwo (x y : ℕ) : Type 0 where
  pub root : x ≤ 2
  pub arc : x ≤ 1 → y < 40
  pub in_range : x ≡ 2 → y ≤ 18446744073709551535

-- the components have an encoding: there are two at least, and each fits 64 bits
abbrev pub IsEncodableOid : List ℕ → Type 0
IsEncodableOid [] = ⊥
IsEncodableOid (x ∷ []) = ⊥
IsEncodableOid (x ∷ y ∷ more) = AreFirstTwo x y × AllByRecursion (λ k. k < 2 ^ 64) more

-- the first two components make one subidentifier, and each further component is one (X.690, 8.19.3 to 8.19.5)
abbrev pub subidentifiers : List ℕ → List ℕ
subidentifiers [] = []
subidentifiers (x ∷ []) = []
subidentifiers (x ∷ y ∷ more) = (40 * x + y) ∷ more

-- the subidentifiers in base 128, one after the other (X.690, 8.19.2)
abbrev pub oid_contents : List ℕ → List ℕ
oid_contents cs = flat_map base128 (subidentifiers cs)

-- the contents c are those of the components cs
pub record AreComponents (m : BERMode) (cs c : List ℕ) : Type 0 where
  pub encodable : IsEncodableOid cs
  pub contents : c ≡ oid_contents cs

-- the type's grammar under its own tag
abbrev pub EncodesOid : Grammar (List ℕ)
EncodesOid = Primitively AreComponents oid_tag

-- the encoding in a canonical mode
abbrev pub oid_encoding : Tag → Encoding (List ℕ)
oid_encoding t m cs = canonical_element m t Primitive (oid_contents cs)

-- OBJECT IDENTIFIER satisfies the laws under any tag
abbrev pub OidKeepsLaws : Type 0
OidKeepsLaws = PrimitiveKeepsLaws AreComponents oid_encoding IsEncodableOid
