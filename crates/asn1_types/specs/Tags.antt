-- The tags of types (X.680, 24.7 to 24.9, 28.2 to 28.5, and 30).
use Rattle.std.specs.Prelude.{◌≡◌, ◌⊎◌, ◌↔◌, ◌+◌, ℕ, Bool, true, false, List, IsTrue, Option, Some, None, All, count_by, not, codes, slice_get, if◌then◌else◌}
use Rattle.std.specs.Str.{bytes_eq}
use Rattle.asn1_types.specs.declared.model.KnownType.{KnownType}
use Rattle.asn1_types.specs.declared.model.TagMode.{TagMode}
use Rattle.asn1_types.specs.declared.model.TagMode.TheVariants as modes
use Rattle.asn1_types.specs.declared.model.TagClass.{TagClass}
use Rattle.asn1_types.specs.declared.model.TagClass.TheVariants as classes
use Rattle.asn1_types.specs.declared.model.TagLayer.{TagLayer}
use Rattle.asn1_types.specs.Values.{IsTagNumber}
use Rattle.asn1_syntax.specs.declared.token.Token.{Token}
use Rattle.asn1_syntax.specs.declared.tree.Module.{Module}
use Rattle.asn1_syntax.specs.declared.tree.TagDefault.{TagDefault}
use Rattle.asn1_syntax.specs.declared.tree.TagNotation.{TagNotation}
use Rattle.asn1_syntax.specs.declared.tree.TagDefault.TheVariants as defaults

-- 30.6 b: the TagDefault of the module is EXPLICIT TAGS or empty
abbrev pub IsExplicitOrEmpty : TagDefault → Type 0
IsExplicitOrEmpty environment = (environment ≡ defaults.Explicit) ⊎ (environment ≡ defaults.Omitted)

-- 30.6: a tag specifies explicit tagging by the word EXPLICIT, by the module's TagDefault where no word is written, or before an untagged CHOICE or
-- open type
abbrev pub SpecifiesExplicit : TagDefault → Option TagMode → Bool → Type 0
SpecifiesExplicit environment written is_untagged =
    (written ≡ Some modes.Explicit) ⊎ (((written ≡ None) × IsExplicitOrEmpty environment) ⊎ IsTrue is_untagged)

-- 24.2 and 24.3: the TagDefault is AUTOMATIC TAGS, and no part is written with a tag
abbrev pub IsTaggedAutomatically : TagDefault → List Bool → Type 0
IsTaggedAutomatically environment has_tag = (environment ≡ defaults.Automatic) × All (λ b. b ≡ false) has_tag

-- 24.7 and 24.8: the parts of the root are numbered from zero, then the additions, each in its order. This is of which parts are additions: those before
-- the part, all of them, and the part itself
abbrev pub automatic_number : List Bool → List Bool → Bool → ℕ
automatic_number before all true = count_by not all + count_by (λ b. b) before
automatic_number before all false = count_by not before

-- 8.1 and 30.2: the class of a tag, by the word before its number. No word is of the class context-specific
abbrev pub class_named : Token → TagClass
class_named word = if bytes_eq word.text.now (codes "APPLICATION") then classes.Application
    else (if bytes_eq word.text.now (codes "PRIVATE") then classes.Private else classes.Universal)

abbrev pub class_written : Option Token → TagClass
class_written None = classes.ContextSpecific
class_written (Some word) = class_named word

-- the word after a tag. A word that is not IMPLICIT is EXPLICIT
abbrev pub mode_named : Token → TagMode
mode_named word = if bytes_eq word.text.now (codes "IMPLICIT") then modes.Implicit else modes.Explicit

abbrev pub mode_written : Option Token → Option TagMode
mode_written None = None
mode_written (Some word) = Some (mode_named word)

-- the TagDefault of the module at an index
abbrev pub tags_of_module : Option Module → TagDefault
tags_of_module None = defaults.Omitted
tags_of_module (Some m) = m.tags

abbrev pub environment_of : List Module → ℕ → TagDefault
environment_of modules index = tags_of_module (slice_get modules index)

-- what is around a tag that is written: the modules, the types of other crates, and the index of its module
pub record TagSite : Type 0 where
  pub modules : List Module
  pub known : List KnownType
  pub «module» : ℕ

abbrev pub tag_site : List Module → List KnownType → ℕ → TagSite
tag_site modules known m = record { modules = modules; known = known; «module» = m }

-- 30.2 and 30.6: what a tag is, of the TagDefault of its module, and whether the type under it is an untagged CHOICE or open type
pub record IsTagOf (e : TagSite) (tag : TagNotation) (is_untagged : Bool) (layer : TagLayer) : Type 0 where
  pub class : layer.class ≡ class_written tag.class
  pub mode : (layer.mode ≡ modes.Explicit) ↔ SpecifiesExplicit (environment_of e.modules e.«module») (mode_written tag.mode) is_untagged
  pub number : IsTagNumber e.modules e.known e.«module» tag.number layer.number
