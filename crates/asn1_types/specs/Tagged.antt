-- Notations under tags (X.680, 24.9 and 30).
use Rattle.std.specs.Prelude.{◌≡◌, ◌↔◌, ℕ, Bool, List, Option, Some, None, IsTrue}
use Rattle.std.specs.Global.{Box}
use Rattle.asn1_types.specs.declared.model.KnownType.{KnownType}
use Rattle.asn1_types.specs.declared.model.Notation.{Notation}
use Rattle.asn1_types.specs.declared.model.Notation.TheVariants as notations
use Rattle.asn1_types.specs.declared.model.TagClass.TheVariants as classes
use Rattle.asn1_types.specs.declared.model.TagLayer.{TagLayer}
use Rattle.asn1_types.specs.declared.model.TagMode.TheVariants as modes
use Rattle.asn1_types.specs.declared.tags_of_types.TagSet.{TagSet}
use Rattle.asn1_types.specs.Tags.{TagSite, IsTagOf}
use Rattle.asn1_types.specs.Untagged.{IsUntaggedAs}
use Rattle.asn1_syntax.specs.declared.tree.TagNotation.{TagNotation}

-- a notation is another one under a layer
pub record IsUnder (layer : TagLayer) (inner outer : Notation) : Type 0 where
  pub content : Box Notation
  pub is : outer ≡ notations.Tagged layer content
  pub value : content.value ≡ inner

-- a notation is another one under a tag that is written
pub record IsTaggedBy (e : TagSite) (sets : List TagSet) (tag : TagNotation) (inner outer : Notation) : Type 0 where
  pub is_untagged : Bool
  pub untagged : IsUntaggedAs e.known sets inner is_untagged
  pub layer : TagLayer
  pub is_tag : IsTagOf e tag is_untagged layer
  pub under : IsUnder layer inner outer

-- 24.9: a notation is another one under the automatic tag of a number: context-specific, and IMPLICIT unless the other one is untagged
pub record IsTaggedAutomaticallyBy (known : List KnownType) (sets : List TagSet) (n : ℕ) (inner outer : Notation) : Type 0 where
  pub is_untagged : Bool
  pub untagged : IsUntaggedAs known sets inner is_untagged
  pub layer : TagLayer
  pub class : layer.class ≡ classes.ContextSpecific
  pub number : layer.number ≡ n
  pub mode : (layer.mode ≡ modes.Explicit) ↔ IsTrue is_untagged
  pub under : IsUnder layer inner outer

-- a notation is another one, under an automatic tag if there is a number
abbrev pub IsTaggedIf : List KnownType → List TagSet → Option ℕ → Notation → Notation → Type 0
IsTaggedIf known sets None inner outer = outer ≡ inner
IsTaggedIf known sets (Some n) inner outer = IsTaggedAutomaticallyBy known sets n inner outer
