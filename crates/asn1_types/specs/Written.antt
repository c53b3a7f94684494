-- The parts that are written in braces, with those of COMPONENTS OF among them (X.680, 24.4).
use Rattle.std.specs.Prelude.{◌≡◌, ℕ, Bool, true, false, List, Option, [], ◌∷◌, ◌++◌, codes, filter, map, not}
use Rattle.std.specs.Global.{Vec}
use Rattle.std.specs.Str.{bytes_eq}
use Rattle.asn1_types.specs.declared.components.Section.{Section}
use Rattle.asn1_types.specs.declared.components.Section.TheVariants as sections
use Rattle.asn1_types.specs.declared.components.WrittenPart.{WrittenPart}
use Rattle.asn1_types.specs.declared.model.KnownType.{KnownType}
use Rattle.asn1_types.specs.Cores.{MeansType}
use Rattle.asn1_syntax.specs.declared.token.Token.{Token}
use Rattle.asn1_syntax.specs.declared.tree.Component.{Component}
use Rattle.asn1_syntax.specs.declared.tree.Module.{Module}
use Rattle.asn1_syntax.specs.declared.tree.Part.TheVariants as written
use Rattle.asn1_syntax.specs.declared.tree.Presence.{Presence}
use Rattle.asn1_syntax.specs.declared.tree.TypeNotation.{TypeNotation}
use Rattle.asn1_syntax.specs.declared.tree.TypeNotation.TheVariants as trees

abbrev pub are_additions : Section → Bool
are_additions sections.Root = false
are_additions sections.Additions = true
are_additions sections.SecondRoot = false

-- what follows `...`: additions after the first one, and the root again after the second one
abbrev pub after_marker : Section → Section
after_marker sections.Root = sections.Additions
after_marker sections.Additions = sections.SecondRoot
after_marker sections.SecondRoot = sections.SecondRoot

-- a part is written in the braces themselves, of the module at an index
pub record IsOwnPart (m : ℕ) (section : Section) (name : Token) (t : TypeNotation) (presence : Presence) (part : WrittenPart) : Type 0 where
  pub «module» : part.«module» ≡ m
  pub name_is : part.name ≡ name
  pub notation : part.notation.now ≡ t
  pub presence_is : part.presence.now ≡ presence
  pub is_addition : part.is_addition ≡ are_additions section
  pub is_own : part.is_own ≡ true

-- a part that is written in other braces
abbrev pub from_others : WrittenPart → WrittenPart
from_others part = record {
  «module» = part.«module»;
  name = part.name;
  notation = part.notation;
  presence = part.presence;
  is_addition = part.is_addition;
  is_own = false;
}

abbrev pub is_root : WrittenPart → Bool
is_root part = not part.is_addition

-- 24.4: the parts of the root, without the additions
abbrev pub roots : List WrittenPart → List WrittenPart
roots parts = map from_others (filter is_root parts)

mutual
  -- these are the parts that are written in the braces of the module at an index, and this comes after them
  pub data AreWritten (modules : List Module) (known : List KnownType) : ℕ → List (Component TypeNotation) → Section → List WrittenPart → Type 0 where
    nothing : {m : ℕ} → AreWritten modules known m [] sections.Root []
    one_more : {m : ℕ} {components : List (Component TypeNotation)} {before after : Section} {parts more : List WrittenPart}
        (component : Component TypeNotation) → AreWritten modules known m components before parts →
        IsNext modules known m component before parts after more → AreWritten modules known m (components ++ component ∷ []) after more

  -- after these parts come those that a component writes
  pub data IsNext (modules : List Module) (known : List KnownType) : ℕ → Component TypeNotation → Section → List WrittenPart → Section →
      List WrittenPart → Type 0 where
    own : {m : ℕ} {component : Component TypeNotation} {section : Section} {parts : List WrittenPart} {name : Token} {t : TypeNotation}
        {presence : Presence} (part : WrittenPart) → component.part ≡ written.Named name t presence → IsOwnPart m section name t presence part →
        IsNext modules known m component section parts section (parts ++ part ∷ [])
    of_another : {m : ℕ} {component : Component TypeNotation} {section : Section} {parts : List WrittenPart} {t : TypeNotation}
        (more : List WrittenPart) → component.part ≡ written.ComponentsOf t → AreRoots modules known m t more →
        IsNext modules known m component section parts section (parts ++ more)
    marker : {m : ℕ} {component : Component TypeNotation} {section : Section} {parts : List WrittenPart} {exception : Option (Vec Token)} →
        component.part ≡ written.Extension exception → IsNext modules known m component section parts (after_marker section) parts
    group_start : {m : ℕ} {component : Component TypeNotation} {section : Section} {parts : List WrittenPart} {version : Option Token} →
        component.part ≡ written.GroupStart version → IsNext modules known m component section parts section parts
    group_end : {m : ℕ} {component : Component TypeNotation} {section : Section} {parts : List WrittenPart} → component.part ≡ written.GroupEnd →
        IsNext modules known m component section parts section parts

  -- 24.4: these are the parts of the root of the SEQUENCE or SET that a type means
  pub data AreRoots (modules : List Module) (known : List KnownType) : ℕ → TypeNotation → List WrittenPart → Type 0 where
    of_braces : {m n : ℕ} {t : TypeNotation} {word : Token} (components : Vec (Component TypeNotation)) {section : Section}
        {parts : List WrittenPart} → MeansType modules known m t n (trees.Constructed word components) →
        bytes_eq word.text.now (codes "CHOICE") ≡ false → AreWritten modules known n components.items section parts →
        AreRoots modules known m t (roots parts)

-- a part that is written in the braces themselves is appended
pub record IsPushed (m : ℕ) (section : Section) (name : Token) (t : TypeNotation) (presence : Presence) (before after : List WrittenPart) : Type 0 where
  pub part : WrittenPart
  pub is : IsOwnPart m section name t presence part
  pub items : after ≡ before ++ part ∷ []

-- the parts of COMPONENTS OF a type are appended
pub record ArePushed (modules : List Module) (known : List KnownType) (m : ℕ) (t : TypeNotation) (before after : List WrittenPart) : Type 0 where
  pub more : List WrittenPart
  pub are : AreRoots modules known m t more
  pub items : after ≡ before ++ more
