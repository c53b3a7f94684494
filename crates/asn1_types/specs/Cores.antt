-- What types mean through names, through the tags before them and the constraints after them.
use Rattle.std.specs.Prelude.{◌≡◌, ℕ, true, List, Some, codes, slice_get}
use Rattle.std.specs.Global.{Vec}
use Rattle.std.specs.Str.{bytes_eq}
use Rattle.asn1_types.specs.declared.model.KnownType.{KnownType}
use Rattle.asn1_types.specs.declared.scope.AssignmentPlace.{AssignmentPlace}
use Rattle.asn1_types.specs.declared.scope.Meaning.TheVariants as meanings
use Rattle.asn1_types.specs.Names.{IsAssigned, Refers}
use Rattle.asn1_types.specs.Trees.{IsWithin}
use Rattle.asn1_syntax.specs.declared.token.Token.{Token}
use Rattle.asn1_syntax.specs.declared.tree.Component.{Component}
use Rattle.asn1_syntax.specs.declared.tree.Module.{Module}
use Rattle.asn1_syntax.specs.declared.tree.Part.TheVariants as written
use Rattle.asn1_syntax.specs.declared.tree.PlainType.{PlainType}
use Rattle.asn1_syntax.specs.declared.tree.Presence.{Presence}
use Rattle.asn1_syntax.specs.declared.tree.TypeNotation.{TypeNotation}
use Rattle.asn1_syntax.specs.declared.tree.TypeNotation.TheVariants as trees

-- a type of the module at an index means a type of that at another index
pub data MeansType (modules : List Module) (known : List KnownType) : ℕ → TypeNotation → ℕ → TypeNotation → Type 0 where
  within : {m : ℕ} {t u : TypeNotation} → IsWithin t u → MeansType modules known m t m u
  by_name : {m n : ℕ} {t u assigned : TypeNotation} {name : PlainType} {place : AssignmentPlace} → IsWithin t (trees.Plain name) →
      Refers modules known m name.words.items (meanings.Assigned place) → IsAssigned modules place.«module» place.assignment assigned →
      MeansType modules known place.«module» assigned n u → MeansType modules known m t n u

-- a type is the name of another one, of the module at an index
pub record IsNameOf (modules : List Module) (known : List KnownType) (m : ℕ) (t : TypeNotation) (n : ℕ) (u : TypeNotation) : Type 0 where
  pub name : PlainType
  pub place : AssignmentPlace
  pub is : t ≡ trees.Plain name
  pub refers : Refers modules known m name.words.items (meanings.Assigned place)
  pub there : n ≡ place.«module»
  pub assigned : IsAssigned modules place.«module» place.assignment u

-- the component of this name in braces has this type
pub record HasAlternative (components : List (Component TypeNotation)) (name : List ℕ) (t : TypeNotation) : Type 0 where
  pub index : ℕ
  pub component : Component TypeNotation
  pub its_name : Token
  pub presence : Presence
  pub there : slice_get components index ≡ Some component
  pub is : component.part ≡ written.Named its_name t presence
  pub same : bytes_eq its_name.text.now name ≡ true

-- 29: a type is that of the alternative of this name in the CHOICE that another type means
pub record IsAlternative (modules : List Module) (known : List KnownType) (m : ℕ) (choice : TypeNotation) (name : Token) (n : ℕ)
    (t : TypeNotation) : Type 0 where
  pub word : Token
  pub components : Vec (Component TypeNotation)
  pub means : MeansType modules known m choice n (trees.Constructed word components)
  pub is_choice : bytes_eq word.text.now (codes "CHOICE") ≡ true
  pub has : HasAlternative components.items name.text.now t
