-- More is resolved once a definition is added.
use Rattle.std.proofs.Common.{◌≡◌, ◌∙◌, ◌∷◌, ◌++◌, ℕ, Bool, List, [], Result, Ok, Err, Some, sym, subst}
use Rattle.std.specs.Global.{Vec}
use Rattle.std.specs.List.{slice_get}
use Rattle.std.specs.Result.{IfOk, OnErr}
use Rattle.asn1_types.specs.declared.model.Body.{Body}
use Rattle.asn1_types.specs.declared.model.Body.TheVariants as bodies
use Rattle.asn1_types.specs.declared.model.Definition.{Definition}
use Rattle.asn1_types.specs.declared.model.KnownType.{KnownType}
use Rattle.asn1_types.specs.declared.model.Enumeration.{Enumeration}
use Rattle.asn1_types.specs.declared.model.Notation.{Notation}
use Rattle.asn1_types.specs.declared.model.Notation.TheVariants as notations
use Rattle.asn1_types.specs.declared.model.Place.{Place}
use Rattle.asn1_types.specs.declared.model.TagLayer.{TagLayer}
use Rattle.asn1_types.specs.declared.problem.Stop.{Stop}
use Rattle.asn1_types.specs.declared.resolver.Resolver.{Resolver}
use Rattle.asn1_types.specs.Context.{Context, IsAdded, IsUnchanged, context_of}
use Rattle.asn1_types.specs.Definitions.{Continues, IsBodyOf, IsDefinition, alias, inside, inside_enumerated, is_choice, value, with_body}
use Rattle.asn1_types.specs.Layers.{AreLayers}
use Rattle.asn1_types.specs.Names.{IsAssigned}
use Rattle.asn1_types.specs.Notations.{IsBody, IsEnumeratedAt, IsNotation, in_place}
use Rattle.asn1_types.specs.Tags.{TagSite, tag_site}
use Rattle.asn1_types.proofs.Growing.{added_grows, continues_added, continues_at, continues_then, continues_unchanged, grow_body, grow_body_of, grow_notation}
use Rattle.asn1_types.proofs.Later.{there_at_end}
use Rattle.asn1_syntax.specs.declared.token.Token.{Token}
use Rattle.asn1_syntax.specs.declared.tree.Component.{Component}
use Rattle.asn1_syntax.specs.declared.tree.Module.{Module}
use Rattle.asn1_syntax.specs.declared.tree.TypeNotation.{TypeNotation}
use Rattle.asn1_syntax.specs.declared.tree.TypeNotation.TheVariants as trees

-- a definition is added, or memory ran out
pub continues_outcome : {a b : Resolver} {place : Place} {assignment : ℕ} {tags : List TagLayer} {body : Body} (r : Result ℕ Stop) →
    IfOk r (λ index. IsAdded (context_of a) (context_of b) index place assignment tags body) →
    OnErr r (context_of b ≡ context_of a) → b.work.assignment ≡ a.work.assignment →
    ((index : ℕ) (added : IsAdded (context_of a) (context_of b) index place assignment tags body) → IsDefinition (context_of b) added.definition) →
    Continues a b
continues_outcome (Ok index) added failed same is = continues_added added (is index added) same
continues_outcome (Err e) added failed same is = continues_at failed same

module _ {a b : Context} {index assignment : ℕ} {place : Place} {tags : List TagLayer} {body : Body}
    (added : IsAdded a b index place assignment tags body) where
  pub is_enumeration_inside : (items : Enumeration) → tags ≡ [] → body ≡ bodies.Enumerated items → IsDefinition b added.definition
  is_enumeration_inside items none is = inside_enumerated (added.tags_are ∙ none) (added.body_is ∙ is)

  there : slice_get b.definitions index ≡ Some added.definition
  there =
      let at_end : slice_get (a.definitions ++ added.definition ∷ []) index ≡ Some added.definition =
      subst (λ (i : ℕ). slice_get (a.definitions ++ added.definition ∷ []) i ≡ Some added.definition) (sym added.at)
      (there_at_end a.definitions added.definition) in
      subst (λ (l : List Definition). slice_get l index ≡ Some added.definition) (sym added.definitions) at_end

  pub is_enumerated_at : (items : Enumeration) → tags ≡ [] → body ≡ bodies.Enumerated items → IsEnumeratedAt b index
  is_enumerated_at items none is = record {
    definition = added.definition;
    items = items;
    there = there;
    tags = added.tags_are ∙ none;
    body = added.body_is ∙ is;
  }

  module_is : (m : ℕ) → place.module ≡ m → added.definition.place.module ≡ m
  module_is m at = subst (λ (x : Place). x.module ≡ m) (sym added.place_is) at

  -- the assignment of the definition
  is_assigned : (m : ℕ) (t : TypeNotation) → IsAssigned a.modules m assignment t → place.module ≡ m →
      IsAssigned b.modules added.definition.place.module added.definition.assignment t
  is_assigned m t is at =
      let in_modules : IsAssigned b.modules m assignment t = subst (λ (x : List Module). IsAssigned x m assignment t) (sym added.modules) is in
      let of_assignment : IsAssigned b.modules m added.definition.assignment t =
      subst (λ (x : ℕ). IsAssigned b.modules m x t) (sym added.assignment_is) in_modules in
      subst (λ (x : ℕ). IsAssigned b.modules x added.definition.assignment t) (sym (module_is m at)) of_assignment

  notation_there : (m : ℕ) (t : TypeNotation) (n : Notation) → place.module ≡ m → IsNotation a m t n → IsNotation b added.definition.place.module t n
  notation_there m t n at is = subst (λ (x : ℕ). IsNotation b x t n) (sym (module_is m at)) (grow_notation (added_grows added) is)

  pub is_value : (m : ℕ) (t : TypeNotation) (n : Notation) → IsAssigned a.modules m assignment t → place.module ≡ m → tags ≡ [] →
      body ≡ bodies.Value n → IsNotation a m t n → IsDefinition b added.definition
  is_value m t n assigned at none is notation =
      value (is_assigned m t assigned at) (added.body_is ∙ is) (added.tags_are ∙ none) (notation_there m t n at notation)

  pub is_alias : (m : ℕ) (t : TypeNotation) (n : Notation) → IsAssigned a.modules m assignment t → place.module ≡ m → tags ≡ [] →
      body ≡ bodies.Alias n → IsNotation a m t n → IsDefinition b added.definition
  is_alias m t n assigned at none is notation =
      alias (is_assigned m t assigned at) (added.body_is ∙ is) (added.tags_are ∙ none) (notation_there m t n at notation)

  pub is_with_body : (m : ℕ) (t : TypeNotation) → IsAssigned a.modules m assignment t → place.module ≡ m →
      AreLayers (tag_site a.modules a.known m) (is_choice body) [] t tags → IsBodyOf a m t body → IsDefinition b added.definition
  is_with_body m t assigned at layers is =
      let e : TagSite = tag_site b.modules b.known added.definition.place.module in
      let of_known : AreLayers (tag_site a.modules b.known m) (is_choice body) [] t tags =
      subst (λ (x : List KnownType). AreLayers (tag_site a.modules x m) (is_choice body) [] t tags) (sym added.known) layers in
      let of_modules : AreLayers (tag_site b.modules b.known m) (is_choice body) [] t tags =
      subst (λ (x : List Module). AreLayers (tag_site x b.known m) (is_choice body) [] t tags) (sym added.modules) of_known in
      let of_module : AreLayers e (is_choice body) [] t tags =
      subst (λ (x : ℕ). AreLayers (tag_site b.modules b.known x) (is_choice body) [] t tags) (sym (module_is m at)) of_modules in
      let of_body : AreLayers e (is_choice added.definition.body) [] t tags =
      subst (λ (x : Body). AreLayers e (is_choice x) [] t tags) (sym added.body_is) of_module in
      let of_tags : AreLayers e (is_choice added.definition.body) [] t added.definition.tags.items =
      subst (λ (x : List TagLayer). AreLayers e (is_choice added.definition.body) [] t x)
      (sym added.tags_are) of_body in
      let body_at : IsBodyOf b added.definition.place.module t body =
      subst (λ (x : ℕ). IsBodyOf b x t body) (sym (module_is m at)) (grow_body_of (added_grows added) is) in
      with_body (is_assigned m t assigned at) of_tags
      (subst (λ (x : Body). IsBodyOf b added.definition.place.module t x) (sym added.body_is) body_at)

  pub body_there : (m : ℕ) (word : Token) (parts : List (Component TypeNotation)) → IsBody a m word parts body →
      IsBody b m word parts added.definition.body
  body_there m word parts is = subst (λ (x : Body). IsBody b m word parts x) (sym added.body_is) (grow_body (added_grows added) is)

  pub is_inside : (m : ℕ) (word : Token) (parts : List (Component TypeNotation)) → tags ≡ [] → IsBody a m word parts body →
      IsDefinition b added.definition
  is_inside m word parts none is = inside (added.tags_are ∙ none) (body_there m word parts is)

  pub is_in_place : (m : ℕ) (word : Token) (parts : Vec (Component TypeNotation)) → tags ≡ [] → IsBody a m word parts.items body →
      IsNotation b m (trees.Constructed word parts) (notations.Defined index)
  is_in_place m word parts none is =
      in_place parts there (added.tags_are ∙ none) (body_there m word parts.items is)

-- the same of a result
pub as_enumerated_at : (a b : Context) (assignment : ℕ) (place : Place) {tags : List TagLayer} {body : Body} (r : Result ℕ Stop) →
    IfOk r (λ index. IsAdded a b index place assignment tags body) → (items : Enumeration) → tags ≡ [] → body ≡ bodies.Enumerated items →
    IfOk r (IsEnumeratedAt b)
as_enumerated_at a b assignment place (Ok index) added items none is = is_enumerated_at added items none is
as_enumerated_at a b assignment place (Err e) added items none is = tt

pub unchanged_then : {a b c : Resolver} → IsUnchanged a b → IsUnchanged b c → IsUnchanged a c
unchanged_then g h = record { context = h.context ∙ g.context; assignment = h.assignment ∙ g.assignment }

assigned_then : {a b : Resolver} {m : ℕ} {t : TypeNotation} → IsUnchanged a b → IsAssigned a.scope.modules.now m a.work.assignment t →
    IsAssigned (context_of b).modules m b.work.assignment t
assigned_then {a} {b} {m} {t} same assigned =
    let in_modules : IsAssigned (context_of b).modules m a.work.assignment t =
    subst (λ (k : Context). IsAssigned k.modules m a.work.assignment t) (sym same.context) assigned in
    subst (λ (x : ℕ). IsAssigned (context_of b).modules m x t) (sym same.assignment) in_modules

module _ {a b e : Resolver} {m index : ℕ} {t : TypeNotation} {place : Place} {tags : List TagLayer} {body : Body} (same : IsUnchanged a b)
    (assigned : IsAssigned a.scope.modules.now m a.work.assignment t) (at : place.module ≡ m) (same_work : e.work.assignment ≡ b.work.assignment)
    (added : IsAdded (context_of b) (context_of e) index place b.work.assignment tags body) where
  pub continues_value : (n : Notation) → tags ≡ [] → body ≡ bodies.Value n → IsNotation (context_of a) m t n → Continues a e
  continues_value n none is notation =
      let then : IsNotation (context_of b) m t n = subst (λ (k : Context). IsNotation k m t n) (sym same.context) notation in
      continues_then (continues_unchanged same) (continues_added added (is_value added m t n (assigned_then same assigned) at none is then) same_work)

  pub continues_alias : (n : Notation) → tags ≡ [] → body ≡ bodies.Alias n → IsNotation (context_of a) m t n → Continues a e
  continues_alias n none is notation =
      let then : IsNotation (context_of b) m t n = subst (λ (k : Context). IsNotation k m t n) (sym same.context) notation in
      continues_then (continues_unchanged same) (continues_added added (is_alias added m t n (assigned_then same assigned) at none is then) same_work)

  pub continues_with_body : (flag : Bool) → flag ≡ is_choice body → AreLayers (tag_site a.scope.modules.now a.scope.known.now m) flag [] t tags →
      IsBodyOf (context_of a) m t body → Continues a e
  continues_with_body flag is layers body_is =
      let of_flag : AreLayers (tag_site (context_of a).modules (context_of a).known m) (is_choice body) [] t tags =
      subst (λ (x : Bool). AreLayers (tag_site (context_of a).modules (context_of a).known m) x [] t tags) is layers in
      let then : AreLayers (tag_site (context_of b).modules (context_of b).known m) (is_choice body) [] t tags =
      subst (λ (k : Context). AreLayers (tag_site k.modules k.known m) (is_choice body) [] t tags) (sym same.context) of_flag in
      let body_then : IsBodyOf (context_of b) m t body = subst (λ (k : Context). IsBodyOf k m t body) (sym same.context) body_is in
      continues_then (continues_unchanged same) (continues_added added (is_with_body added m t (assigned_then same assigned) at then body_then) same_work)
