-- What is resolved holds while more is resolved.
use Rattle.std.proofs.Common.{◌≡◌, ℕ, Bool, List, [], ◌∷◌, ◌++◌, Option, refl, sym, subst, ◌∙◌}
use Rattle.asn1_types.specs.declared.components.WrittenPart.{WrittenPart}
use Rattle.asn1_types.specs.declared.model.Body.{Body}
use Rattle.asn1_types.specs.declared.model.Definition.{Definition}
use Rattle.asn1_types.specs.declared.model.KnownType.{KnownType}
use Rattle.asn1_types.specs.declared.model.Notation.{Notation}
use Rattle.asn1_types.specs.declared.model.Part.{Part}
use Rattle.asn1_types.specs.declared.model.Place.{Place}
use Rattle.asn1_types.specs.declared.model.TagLayer.{TagLayer}
use Rattle.asn1_types.specs.declared.resolver.Resolver.{Resolver}
use Rattle.asn1_types.specs.declared.scope.AssignmentPlace.{AssignmentPlace}
use Rattle.asn1_types.specs.declared.tags_of_types.TagSet.{TagSet}
use Rattle.asn1_types.specs.Context.{Context, Grows, IsAdded, IsUnchanged, Stays, context_of}
use Rattle.asn1_types.specs.Definitions.{AreDefinitions, AreResolved, Continues, IsBodyOf, IsDefinition}
use Rattle.asn1_types.specs.Definitions as definitions_are
use Rattle.asn1_types.specs.Notations.{AreParts, IsBody, IsDefinedAt, IsNotation, IsOwn, IsPlain}
use Rattle.asn1_types.specs.Notations as notations_are
use Rattle.asn1_types.specs.Untagged.{IsUntaggedWithin}
use Rattle.asn1_types.proofs.Later.{finished_later, stays_in_more, tagged_later, untagged_within_later}
use Rattle.asn1_syntax.specs.declared.token.Token.{Token}
use Rattle.asn1_syntax.specs.declared.tree.Component.{Component}
use Rattle.asn1_syntax.specs.declared.tree.Module.{Module}
use Rattle.asn1_syntax.specs.declared.tree.PlainType.{PlainType}
use Rattle.asn1_syntax.specs.declared.tree.TypeNotation.{TypeNotation}

abbrev pub later_of : Context → List Definition → List TagSet → Context
later_of c ds ss = record { modules = c.modules; known = c.known; is_incomplete = c.is_incomplete; definitions = ds; sets = ss }

module _ (c : Context) (ds : List Definition) (ss : List TagSet) (more_ds : Stays c.definitions ds) (more_ss : Stays c.sets ss) where
  defined_later : {place : AssignmentPlace} (i : ℕ) → IsDefinedAt c place i → IsDefinedAt (later_of c ds ss) place i
  defined_later i is = record {
    definition = is.definition;
    there = is.there;
    defined = more_ds i is.definition is.defined;
    assigned = is.assigned;
    «module» = is.«module»;
    offset = is.offset;
    assignment = is.assignment;
  }

  own_later : {t : PlainType} {n : Notation} → IsOwn c t n → IsOwn (later_of c ds ss) t n
  own_later (notations_are.builtin first word of) = notations_are.builtin first word of
  own_later (notations_are.left_open first word of) = notations_are.left_open first word of
  own_later (notations_are.enumerated {index = i} first word is at) = notations_are.enumerated first word is (record {
    definition = at.definition;
    items = at.items;
    there = more_ds i at.definition at.there;
    tags = at.tags;
    body = at.body;
  })

  mutual
    pub notation_later : {m : ℕ} {t : TypeNotation} {n : Notation} → IsNotation c m t n → IsNotation (later_of c ds ss) m t n
    notation_later (notations_are.plain is) = notations_are.plain (plain_later is)
    notation_later (notations_are.under_tag is tagged) = notations_are.under_tag (notation_later is) (tagged_later c.known c.sets ss more_ss tagged)
    notation_later (notations_are.selected of is) = notations_are.selected of (notation_later is)
    notation_later (notations_are.list is made) = notations_are.list (notation_later is) made
    notation_later (notations_are.in_place {index = i} parts {definition = d} there tags is) =
        notations_are.in_place parts (more_ds i d there) tags (body_later is)
    notation_later (notations_are.with_constraints is constrained) = notations_are.with_constraints (notation_later is) constrained

    pub plain_later : {m : ℕ} {t : PlainType} {n : Notation} → IsPlain c m t n → IsPlain (later_of c ds ss) m t n
    plain_later (notations_are.own is) = notations_are.own (own_later is)
    plain_later (notations_are.of_crate refers) = notations_are.of_crate refers
    plain_later (notations_are.of_definition {index = i} refers is) = notations_are.of_definition refers (defined_later i is)
    plain_later (notations_are.of_name refers assigned is) = notations_are.of_name refers assigned (notation_later is)
    plain_later (notations_are.in_itself refers assigned means is) = notations_are.in_itself refers assigned means is

    pub body_later : {m : ℕ} {word : Token} {components : List (Component TypeNotation)} {body : Body} → IsBody c m word components body →
        IsBody (later_of c ds ss) m word components body
    body_later (notations_are.of_parts are numbers parts has) = notations_are.of_parts are numbers (parts_later parts) has

    pub parts_later : {numbers : List (Option ℕ)} {written : List WrittenPart} {parts : List Part} → AreParts c numbers written parts →
        AreParts (later_of c ds ss) numbers written parts
    parts_later notations_are.no_parts = notations_are.no_parts
    parts_later (notations_are.one_more before is finished) =
        notations_are.one_more (parts_later before) (notation_later is) (finished_later c.known c.sets ss more_ss finished)

  body_of_later : {m : ℕ} {t : TypeNotation} {body : Body} → IsBodyOf c m t body → IsBodyOf (later_of c ds ss) m t body
  body_of_later (definitions_are.constructed parts within is body) = definitions_are.constructed parts within is (body_later body)
  body_of_later (definitions_are.enumerated is) = definitions_are.enumerated is

  definition_later : {d : Definition} → IsDefinition c d → IsDefinition (later_of c ds ss) d
  definition_later (definitions_are.with_body assigned layers body) = definitions_are.with_body assigned layers (body_of_later body)
  definition_later (definitions_are.value assigned is tags n) = definitions_are.value assigned is tags (notation_later n)
  definition_later (definitions_are.alias assigned is tags n) = definitions_are.alias assigned is tags (notation_later n)
  definition_later (definitions_are.inside tags body) = definitions_are.inside tags (body_later body)
  definition_later (definitions_are.inside_enumerated tags is) = definitions_are.inside_enumerated tags is

  definitions_later : {list : List Definition} {sets : List TagSet} → AreDefinitions c list sets → AreDefinitions (later_of c ds ss) list sets
  definitions_later definitions_are.no_definitions = definitions_are.no_definitions
  definitions_later (definitions_are.one_more {d = d} set before is untagged) =
      definitions_are.one_more set (definitions_later before) (definition_later is)
      (untagged_within_later c.known c.sets ss more_ss d.tags.items d.body set.is_untagged untagged)

-- the modules, the types of other crates and whether modules may be absent are the same
carry : (F : Context → Type 0) (c k : Context) → Grows c k → F (later_of c k.definitions k.sets) → F k
carry F c k g is =
    let of : List Module → List KnownType → Bool → Context = λ ms ks b. record {
      modules = ms;
      known = ks;
      is_incomplete = b;
      definitions = k.definitions;
      sets = k.sets;
    } in
    subst (λ (ms : List Module). F (of ms k.known k.is_incomplete)) (sym g.modules)
    (subst (λ (ks : List KnownType). F (of c.modules ks k.is_incomplete)) (sym g.known)
    (subst (λ (b : Bool). F (of c.modules c.known b)) (sym g.is_incomplete) is))

pub grow_notation : {c k : Context} → Grows c k → {m : ℕ} {t : TypeNotation} {n : Notation} → IsNotation c m t n → IsNotation k m t n
grow_notation {c} {k} g {m} {t} {n} is = carry (λ x. IsNotation x m t n) c k g (notation_later c k.definitions k.sets g.definitions g.sets is)

pub grow_plain : {c k : Context} → Grows c k → {m : ℕ} {t : PlainType} {n : Notation} → IsPlain c m t n → IsPlain k m t n
grow_plain {c} {k} g {m} {t} {n} is = carry (λ x. IsPlain x m t n) c k g (plain_later c k.definitions k.sets g.definitions g.sets is)

pub grow_body : {c k : Context} → Grows c k → {m : ℕ} {word : Token} {components : List (Component TypeNotation)} {body : Body} →
    IsBody c m word components body → IsBody k m word components body
grow_body {c} {k} g {m} {word} {components} {body} is =
    carry (λ x. IsBody x m word components body) c k g (body_later c k.definitions k.sets g.definitions g.sets is)

pub grow_parts : {c k : Context} → Grows c k → {numbers : List (Option ℕ)} {written : List WrittenPart} {parts : List Part} →
    AreParts c numbers written parts → AreParts k numbers written parts
grow_parts {c} {k} g {numbers} {written} {parts} is =
    carry (λ x. AreParts x numbers written parts) c k g (parts_later c k.definitions k.sets g.definitions g.sets is)

pub grow_body_of : {c k : Context} → Grows c k → {m : ℕ} {t : TypeNotation} {body : Body} → IsBodyOf c m t body → IsBodyOf k m t body
grow_body_of {c} {k} g {m} {t} {body} is =
    carry (λ x. IsBodyOf x m t body) c k g (body_of_later c k.definitions k.sets g.definitions g.sets is)

grow_definitions : {c k : Context} → Grows c k → {list : List Definition} {sets : List TagSet} → AreDefinitions c list sets → AreDefinitions k list sets
grow_definitions {c} {k} g {list} {sets} is =
    carry (λ x. AreDefinitions x list sets) c k g (definitions_later c k.definitions k.sets g.definitions g.sets is)

grow_untagged : {c k : Context} → Grows c k → (d : Definition) (set : TagSet) →
    IsUntaggedWithin c.known c.sets d.tags.items d.body set.is_untagged → IsUntaggedWithin k.known k.sets d.tags.items d.body set.is_untagged
grow_untagged {c} {k} g d set is =
    carry (λ x. IsUntaggedWithin x.known x.sets d.tags.items d.body set.is_untagged) c k g
    (untagged_within_later c.known c.sets k.sets g.sets d.tags.items d.body set.is_untagged is)

pub grows_same : (c : Context) → Grows c c
grows_same c = record { modules = refl; known = refl; is_incomplete = refl; definitions = λ i x is. is; sets = λ i x is. is }

pub grows_then : {a b c : Context} → Grows a b → Grows b c → Grows a c
grows_then g h = record {
  modules = h.modules ∙ g.modules;
  known = h.known ∙ g.known;
  is_incomplete = h.is_incomplete ∙ g.is_incomplete;
  definitions = λ i x is. h.definitions i x (g.definitions i x is);
  sets = λ i x is. h.sets i x (g.sets i x is);
}

pub continues_same : (a : Resolver) → Continues a a
continues_same a = record { grows = grows_same (context_of a); resolved = λ is. is; assignment = refl }

pub continues_then : {a b c : Resolver} → Continues a b → Continues b c → Continues a c
continues_then g h = record {
  grows = grows_then g.grows h.grows;
  resolved = λ is. h.resolved (g.resolved is);
  assignment = h.assignment ∙ g.assignment;
}

-- the same context, which is resolved, of the same assignment
pub continues_at : {a b : Resolver} → context_of b ≡ context_of a → b.work.assignment ≡ a.work.assignment → Continues a b
continues_at {a} {b} is same =
    let P : Context → Type 0 = λ k. Grows (context_of a) k in
    record {
      grows = subst P (sym is) (grows_same (context_of a));
      resolved = λ all. subst AreResolved (sym is) all;
      assignment = same;
    }

pub continues_unchanged : {a b : Resolver} → IsUnchanged a b → Continues a b
continues_unchanged u = continues_at u.context u.assignment

module _ {a b : Context} {index assignment : ℕ} {place : Place} {tags : List TagLayer} {body : Body}
    (added : IsAdded a b index place assignment tags body) where
  pub added_grows : Grows a b
  added_grows =
      let P : List Definition → Type 0 = λ l. Stays a.definitions l in
      let Q : List TagSet → Type 0 = λ l. Stays a.sets l in
      record {
        modules = added.modules;
        known = added.known;
        is_incomplete = added.is_incomplete;
        definitions = subst P (sym added.definitions) (stays_in_more a.definitions (added.definition ∷ []));
        sets = subst Q (sym added.sets) (stays_in_more a.sets (added.set ∷ []));
      }

  added_resolved : IsDefinition b added.definition → AreResolved a → AreResolved b
  added_resolved is all =
      let one : AreDefinitions b (a.definitions ++ added.definition ∷ []) (a.sets ++ added.set ∷ []) =
      definitions_are.one_more added.set (grow_definitions added_grows all) is (grow_untagged added_grows added.definition added.set added.is_untagged) in
      let P : List Definition → Type 0 = λ l. AreDefinitions b l (a.sets ++ added.set ∷ []) in
      let Q : List TagSet → Type 0 = λ l. AreDefinitions b b.definitions l in
      subst Q (sym added.sets) (subst P (sym added.definitions) one)

pub continues_added : {a b : Resolver} {index assignment : ℕ} {place : Place} {tags : List TagLayer} {body : Body}
    (added : IsAdded (context_of a) (context_of b) index place assignment tags body) → IsDefinition (context_of b) added.definition →
    b.work.assignment ≡ a.work.assignment → Continues a b
continues_added added is same = record { grows = added_grows added; resolved = added_resolved added is; assignment = same }
