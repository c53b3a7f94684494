-- What is said of notations holds of more definitions too.
use Rattle.std.proofs.Common.{◌≡◌, ◌∙◌, ℕ, zero, suc, List, [], ◌∷◌, ◌++◌, Option, Some, None, Bool, length, refl, ap}
use Rattle.std.specs.List.{slice_get}
use Rattle.asn1_types.specs.declared.components.WrittenPart.{WrittenPart}
use Rattle.asn1_types.specs.declared.model.Body.{Body}
use Rattle.asn1_types.specs.declared.model.Body.TheVariants as bodies
use Rattle.asn1_types.specs.declared.model.KnownType.{KnownType}
use Rattle.asn1_types.specs.declared.model.Notation.{Notation}
use Rattle.asn1_types.specs.declared.model.Part.{Part}
use Rattle.asn1_types.specs.declared.model.TagLayer.{TagLayer}
use Rattle.asn1_types.specs.declared.tags_of_types.TagSet.{TagSet}
use Rattle.asn1_types.specs.Context.{Stays}
use Rattle.asn1_types.specs.Parts.{IsFinished}
use Rattle.asn1_types.specs.Tags.{tag_site}
use Rattle.asn1_types.specs.Tagged.{IsTaggedAutomaticallyBy, IsTaggedBy, IsTaggedIf}
use Rattle.asn1_types.specs.Untagged.{IsUntaggedAs, IsUntaggedBody, IsUntaggedWithin, is_untagged_set, of_crate, of_definition, open_type, with_tag}
use Rattle.asn1_syntax.specs.declared.tree.Module.{Module}
use Rattle.asn1_syntax.specs.declared.tree.TagNotation.{TagNotation}

-- nothing is at an index of no list
nowhere : {A : Type 0} (x : A) (P : Type 0) → ◌≡◌ {A = Option A} None (Some x) → P
nowhere x P is = cc

pub stays_in_more : {A : Type 0} (xs ys : List A) (i : ℕ) (x : A) → slice_get xs i ≡ Some x → slice_get (xs ++ ys) i ≡ Some x
stays_in_more [] ys i x is = nowhere x (slice_get ys i ≡ Some x) is
stays_in_more (y ∷ xs) ys zero x is = is
stays_in_more (y ∷ xs) ys (suc i) x is = stays_in_more xs ys i x is

pub there_at_end : {A : Type 0} (xs : List A) (x : A) → slice_get (xs ++ x ∷ []) (length xs) ≡ Some x
there_at_end [] x = refl
there_at_end (y ∷ xs) x = there_at_end xs x

module _ (known : List KnownType) (sets later : List TagSet) (stays : Stays sets later) where
  flag_later : (index : ℕ) (b : Bool) (o : Option TagSet) → slice_get sets index ≡ o → is_untagged_set o ≡ Some b →
      is_untagged_set (slice_get later index) ≡ Some b
  flag_later index b None at flag = nowhere b (is_untagged_set (slice_get later index) ≡ Some b) flag
  flag_later index b (Some set) at flag = ap is_untagged_set (stays index set at) ∙ flag

  pub untagged_later : {n : Notation} {b : Bool} → IsUntaggedAs known sets n b → IsUntaggedAs known later n b
  untagged_later (open_type is flag) = open_type is flag
  untagged_later {b = b} (of_definition {index} is flag) = of_definition is (flag_later index b (slice_get sets index) refl flag)
  untagged_later (of_crate is flag) = of_crate is flag
  untagged_later (with_tag any defined imported flag) = with_tag any defined imported flag

  pub tagged_later : {modules : List Module} {m : ℕ} {tag : TagNotation} {n outer : Notation} → IsTaggedBy (tag_site modules known m) sets tag n outer →
      IsTaggedBy (tag_site modules known m) later tag n outer
  tagged_later t = record {
    is_untagged = t.is_untagged;
    untagged = untagged_later t.untagged;
    layer = t.layer;
    is_tag = t.is_tag;
    under = t.under;
  }

  pub automatic_later : {k : ℕ} {n outer : Notation} → IsTaggedAutomaticallyBy known sets k n outer → IsTaggedAutomaticallyBy known later k n outer
  automatic_later t = record {
    is_untagged = t.is_untagged;
    untagged = untagged_later t.untagged;
    layer = t.layer;
    class = t.class;
    number = t.number;
    mode = t.mode;
    under = t.under;
  }

  pub tagged_if_later : (number : Option ℕ) (n outer : Notation) → IsTaggedIf known sets number n outer → IsTaggedIf known later number n outer
  tagged_if_later None n outer is = is
  tagged_if_later (Some k) n outer is = automatic_later is

  pub finished_later : {w : WrittenPart} {number : Option ℕ} {n : Notation} {part : Part} → IsFinished known sets w number n part →
      IsFinished known later w number n part
  finished_later {number = number} {n = n} {part = part} f = record {
    name = f.name;
    notation = tagged_if_later number n part.notation f.notation;
    presence = f.presence;
    is_addition = f.is_addition;
  }

  pub untagged_body_later : (body : Body) (b : Bool) → IsUntaggedBody known sets body b → IsUntaggedBody known later body b
  untagged_body_later (bodies.Sequence components) b is = is
  untagged_body_later (bodies.Set components) b is = is
  untagged_body_later (bodies.Choice choice) b is = is
  untagged_body_later (bodies.Enumerated items) b is = is
  untagged_body_later (bodies.Value n) b is = untagged_later is
  untagged_body_later (bodies.Alias n) b is = untagged_later is

  pub untagged_within_later : (layers : List TagLayer) (body : Body) (b : Bool) → IsUntaggedWithin known sets layers body b →
      IsUntaggedWithin known later layers body b
  untagged_within_later [] body b is = untagged_body_later body b is
  untagged_within_later (layer ∷ layers) body b is = is
