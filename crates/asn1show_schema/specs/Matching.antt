-- Which part of a type an element may be, by its tag.
use Rattle.std.specs.Prelude.{◌≡◌, ◌≤◌, ◌<◌, ℕ, ⊤, MatchOption}
use Rattle.yasna_base.specs.declared.tag.Tag.{Tag}
use Rattle.asn1show_schema.specs.declared.matching.Match.{Match}
use Rattle.asn1show_schema.specs.declared.matching.Match.TheVariants.{Of, Addition, Unknown, Unspecified}
use Rattle.asn1show_schema.specs.declared.schema.Beginning.{Beginning}
use Rattle.asn1show_schema.specs.declared.schema.Contents.{Contents}
use Rattle.asn1show_schema.specs.declared.schema.Contents.TheVariants.{Any, Value, One, SequenceOf, SetOf, Selected, InOrder, InAnyOrder}

-- an element with this tag begins so
abbrev pub HasTag : Beginning → Tag → Type 0
HasTag b t = MatchOption b.tag ⊤ (λ own. own ≡ t)

-- an element of this place is around the next one, or may be
abbrev pub IsPlaceIn : ℕ → Contents → Type 0
IsPlaceIn i Any = ⊥
IsPlaceIn i (Value t) = ⊥
IsPlaceIn i (One place) = i ≡ place
IsPlaceIn i (SequenceOf place size) = i ≡ place
IsPlaceIn i (SetOf place size) = i ≡ place
IsPlaceIn i (Selected place) = i ≡ place
IsPlaceIn i (InOrder parts) = (parts.first ≤ i) × (i < parts.end)
IsPlaceIn i (InAnyOrder parts) = (parts.first ≤ i) × (i < parts.end)

-- what an element with this tag is in what is around it: one of these places, whose element may begin so
abbrev pub IsMatchIn : Contents → Tag → Match → Type 0
IsMatchIn around t (Of i b) = IsPlaceIn i around × HasTag b t
IsMatchIn around t Addition = ⊤
IsMatchIn around t Unknown = ⊤
IsMatchIn around t Unspecified = ⊤

-- an element is of no place
abbrev pub IsNoPlace : Match → Type 0
IsNoPlace (Of i b) = ⊥
IsNoPlace Addition = ⊤
IsNoPlace Unknown = ⊤
IsNoPlace Unspecified = ⊤
