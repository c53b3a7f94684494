-- What is resolved of modules, at a time.
use Rattle.std.specs.Prelude.{◌≡◌, ℕ, Bool, List, Some, [], ◌∷◌, ◌++◌, length, slice_get}
use Rattle.asn1_types.specs.declared.model.Body.{Body}
use Rattle.asn1_types.specs.declared.model.Definition.{Definition}
use Rattle.asn1_types.specs.declared.model.KnownType.{KnownType}
use Rattle.asn1_types.specs.declared.model.Place.{Place}
use Rattle.asn1_types.specs.declared.model.Resolved.{Resolved}
use Rattle.asn1_types.specs.declared.model.TagLayer.{TagLayer}
use Rattle.asn1_types.specs.declared.resolver.Resolver.{Resolver}
use Rattle.asn1_types.specs.declared.tags_of_types.TagSet.{TagSet}
use Rattle.asn1_types.specs.Untagged.{IsUntaggedWithin}
use Rattle.asn1_syntax.specs.declared.tree.Module.{Module}

-- the modules, the types of other crates, whether modules may be absent, and what is resolved: definitions, and the tags that their encodings begin with
pub record Context : Type 0 where
  pub modules : List Module
  pub known : List KnownType
  pub is_incomplete : Bool
  pub definitions : List Definition
  pub sets : List TagSet

abbrev pub context_of : Resolver → Context
context_of r = record {
  modules = r.scope.modules.now;
  known = r.scope.known.now;
  is_incomplete = r.is_incomplete;
  definitions = r.definitions.items;
  sets = r.tag_sets.items;
}

abbrev pub resolved_of : List Module → List KnownType → Bool → Resolved → Context
resolved_of modules known is_incomplete resolved = record {
  modules = modules;
  known = known;
  is_incomplete = is_incomplete;
  definitions = resolved.definitions.items;
  sets = resolved.tag_sets.items;
}

-- what is at an index of a list is there in another one too
abbrev pub Stays : {A : Type 0} → List A → List A → Type 0
Stays {A} before after = (i : ℕ) (x : A) → slice_get before i ≡ Some x → slice_get after i ≡ Some x

-- the same modules, and at least what was resolved before
pub record Grows (before after : Context) : Type 0 where
  pub modules : after.modules ≡ before.modules
  pub known : after.known ≡ before.known
  pub is_incomplete : after.is_incomplete ≡ before.is_incomplete
  pub definitions : Stays before.definitions after.definitions
  pub sets : Stays before.sets after.sets

-- a definition is added, with the tags that its encodings begin with
pub record IsAdded (before after : Context) (index : ℕ) (place : Place) (assignment : ℕ) (tags : List TagLayer) (body : Body) : Type 0 where
  pub definition : Definition
  pub set : TagSet
  pub modules : after.modules ≡ before.modules
  pub known : after.known ≡ before.known
  pub is_incomplete : after.is_incomplete ≡ before.is_incomplete
  pub definitions : after.definitions ≡ before.definitions ++ definition ∷ []
  pub sets : after.sets ≡ before.sets ++ set ∷ []
  pub at : index ≡ length before.definitions
  pub place_is : definition.place ≡ place
  pub assignment_is : definition.assignment ≡ assignment
  pub tags_are : definition.tags.items ≡ tags
  pub body_is : definition.body ≡ body
  pub is_untagged : IsUntaggedWithin before.known before.sets definition.tags.items definition.body set.is_untagged

-- what is resolved and whose assignment is being resolved are the same
pub record IsUnchanged (before after : Resolver) : Type 0 where
  pub context : context_of after ≡ context_of before
  pub assignment : after.work.assignment ≡ before.work.assignment
