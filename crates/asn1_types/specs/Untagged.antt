-- Which notations are those of untagged CHOICEs and open types (X.680, 30.6 c).
use Rattle.std.specs.Prelude.{◌≡◌, ℕ, Bool, true, false, List, Option, Some, None, [], ◌∷◌, slice_get}
use Rattle.asn1_types.specs.declared.model.Body.{Body}
use Rattle.asn1_types.specs.declared.model.Body.TheVariants as bodies
use Rattle.asn1_types.specs.declared.model.KnownType.{KnownType}
use Rattle.asn1_types.specs.declared.model.Notation.{Notation}
use Rattle.asn1_types.specs.declared.model.Notation.TheVariants as notations
use Rattle.asn1_types.specs.declared.model.TagLayer.{TagLayer}
use Rattle.asn1_types.specs.declared.tags_of_types.TagSet.{TagSet}

abbrev pub is_untagged_set : Option TagSet → Option Bool
is_untagged_set None = None
is_untagged_set (Some set) = Some set.is_untagged

abbrev pub is_untagged_known : Option KnownType → Option Bool
is_untagged_known None = None
is_untagged_known (Some known) = Some known.is_untagged

-- whether a notation is untagged: any element is; a definition and a type of another crate are what is known of them; no other notation is. So a type
-- that no module gives counts as tagged: an IMPLICIT tag before it stays IMPLICIT
pub data IsUntaggedAs (known : List KnownType) (sets : List TagSet) (n : Notation) (b : Bool) : Type 0 where
  open_type : n ≡ notations.Any → b ≡ true → IsUntaggedAs known sets n b
  of_definition : {index : ℕ} → n ≡ notations.Defined index → is_untagged_set (slice_get sets index) ≡ Some b → IsUntaggedAs known sets n b
  of_crate : {index : ℕ} → n ≡ notations.Imported index → is_untagged_known (slice_get known index) ≡ Some b → IsUntaggedAs known sets n b
  with_tag : (n ≡ notations.Any → ⊥) → ((index : ℕ) → n ≡ notations.Defined index → ⊥) → ((index : ℕ) → n ≡ notations.Imported index → ⊥) →
      b ≡ false → IsUntaggedAs known sets n b

-- whether a definition is untagged, of its body: a CHOICE is, and a name is what its notation is
abbrev pub IsUntaggedBody : List KnownType → List TagSet → Body → Bool → Type 0
IsUntaggedBody known sets (bodies.Sequence components) b = b ≡ false
IsUntaggedBody known sets (bodies.Set components) b = b ≡ false
IsUntaggedBody known sets (bodies.Choice alternatives) b = b ≡ true
IsUntaggedBody known sets (bodies.Enumerated items) b = b ≡ false
IsUntaggedBody known sets (bodies.Value n) b = IsUntaggedAs known sets n b
IsUntaggedBody known sets (bodies.Alias n) b = IsUntaggedAs known sets n b

-- a definition with a tag around it is not untagged
abbrev pub IsUntaggedWithin : List KnownType → List TagSet → List TagLayer → Body → Bool → Type 0
IsUntaggedWithin known sets [] body b = IsUntaggedBody known sets body b
IsUntaggedWithin known sets (layer ∷ layers) body b = b ≡ false
