-- Definitions, as X.680 has them of what modules write.
use Rattle.std.specs.Prelude.{◌≡◌, ℕ, Bool, true, false, List, [], ◌∷◌, ◌++◌}
use Rattle.std.specs.Global.{Vec}
use Rattle.asn1_types.specs.declared.model.Body.{Body}
use Rattle.asn1_types.specs.declared.model.Body.TheVariants as bodies
use Rattle.asn1_types.specs.declared.model.Definition.{Definition}
use Rattle.asn1_types.specs.declared.model.Enumeration.{Enumeration}
use Rattle.asn1_types.specs.declared.model.Notation.{Notation}
use Rattle.asn1_types.specs.declared.resolver.Resolver.{Resolver}
use Rattle.asn1_types.specs.declared.tags_of_types.TagSet.{TagSet}
use Rattle.asn1_types.specs.Context.{Context, Grows, context_of}
use Rattle.asn1_types.specs.Layers.{AreLayers}
use Rattle.asn1_types.specs.Names.{IsAssigned}
use Rattle.asn1_types.specs.Notations.{IsBody, IsNotation}
use Rattle.asn1_types.specs.Tags.{tag_site}
use Rattle.asn1_types.specs.Trees.{IsWithin}
use Rattle.asn1_types.specs.Untagged.{IsUntaggedWithin}
use Rattle.asn1_syntax.specs.declared.token.Token.{Token}
use Rattle.asn1_syntax.specs.declared.tree.Component.{Component}
use Rattle.asn1_syntax.specs.declared.tree.TypeNotation.{TypeNotation}
use Rattle.asn1_syntax.specs.declared.tree.TypeNotation.TheVariants as trees

abbrev pub is_choice : Body → Bool
is_choice (bodies.Sequence components) = false
is_choice (bodies.Set components) = false
is_choice (bodies.Choice choice) = true
is_choice (bodies.Enumerated items) = false
is_choice (bodies.Value n) = false
is_choice (bodies.Alias n) = false

-- a body is that of the SEQUENCE, SET or CHOICE that a type is within its tags, or of an ENUMERATED
pub data IsBodyOf (c : Context) (m : ℕ) (t : TypeNotation) (body : Body) : Type 0 where
  constructed : {u : TypeNotation} {word : Token} (parts : Vec (Component TypeNotation)) → IsWithin t u → u ≡ trees.Constructed word parts →
      IsBody c m word parts.items body → IsBodyOf c m t body
  enumerated : {items : Enumeration} → body ≡ bodies.Enumerated items → IsBodyOf c m t body

-- a definition is that of an assigned type, or of a SEQUENCE, SET, CHOICE or ENUMERATED inside one
pub data IsDefinition (c : Context) (d : Definition) : Type 0 where
  with_body : {t : TypeNotation} → IsAssigned c.modules d.place.module d.assignment t →
      AreLayers (tag_site c.modules c.known d.place.module) (is_choice d.body) [] t d.tags.items → IsBodyOf c d.place.module t d.body → IsDefinition c d
  value : {t : TypeNotation} {n : Notation} → IsAssigned c.modules d.place.module d.assignment t → d.body ≡ bodies.Value n →
      d.tags.items ≡ [] → IsNotation c d.place.module t n → IsDefinition c d
  alias : {t : TypeNotation} {n : Notation} → IsAssigned c.modules d.place.module d.assignment t → d.body ≡ bodies.Alias n →
      d.tags.items ≡ [] → IsNotation c d.place.module t n → IsDefinition c d
  inside : {m : ℕ} {word : Token} {parts : List (Component TypeNotation)} → d.tags.items ≡ [] → IsBody c m word parts d.body → IsDefinition c d
  inside_enumerated : {items : Enumeration} → d.tags.items ≡ [] → d.body ≡ bodies.Enumerated items → IsDefinition c d

-- each is a definition, and its tags are untagged if it is
pub data AreDefinitions (c : Context) : List Definition → List TagSet → Type 0 where
  no_definitions : AreDefinitions c [] []
  one_more : {definitions : List Definition} {sets : List TagSet} {d : Definition} (set : TagSet) → AreDefinitions c definitions sets →
      IsDefinition c d → IsUntaggedWithin c.known c.sets d.tags.items d.body set.is_untagged →
      AreDefinitions c (definitions ++ d ∷ []) (sets ++ set ∷ [])

-- all that is resolved is as X.680 has it
abbrev pub AreResolved : Context → Type 0
AreResolved c = AreDefinitions c c.definitions c.sets

-- more is resolved, of the same assignment
pub record Continues (before after : Resolver) : Type 0 where
  pub grows : Grows (context_of before) (context_of after)
  pub resolved : AreResolved (context_of before) → AreResolved (context_of after)
  pub assignment : after.work.assignment ≡ before.work.assignment
