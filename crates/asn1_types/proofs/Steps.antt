-- The steps by which a type is resolved.
use Rattle.std.proofs.Common.{◌≡◌, ◌∙◌, ◌∷◌, ◌++◌, ◌+◌, ◌<◌, ℕ, Bool, List, [], Option, Some, None, Result, Ok, Err, sym, subst, ap, take, get_or, length, arith}
use Rattle.std.proofs.lemmas.List.{length-take-le, take_more}
use Rattle.std.specs.Global.{Box, Vec}
use Rattle.std.specs.List.{slice_get}
use Rattle.std.specs.Option.{IfSome}
use Rattle.std.specs.Result.{IfOk, OnErr}
use Rattle.asn1_types.specs.declared.components.Section.{Section}
use Rattle.asn1_types.specs.declared.components.WrittenPart.{WrittenPart}
use Rattle.asn1_types.specs.declared.model.Body.{Body}
use Rattle.asn1_types.specs.declared.model.Definition.{Definition}
use Rattle.asn1_types.specs.declared.model.KnownType.{KnownType}
use Rattle.asn1_types.specs.declared.model.Notation.{Notation}
use Rattle.asn1_types.specs.declared.model.Notation.TheVariants as notations
use Rattle.asn1_types.specs.declared.model.Part.{Part}
use Rattle.asn1_types.specs.declared.model.Place.{Place}
use Rattle.asn1_types.specs.declared.model.Size.{Size}
use Rattle.asn1_types.specs.declared.model.TagLayer.{TagLayer}
use Rattle.asn1_types.specs.declared.problem.Stop.{Stop}
use Rattle.asn1_types.specs.declared.resolver.Resolver.{Resolver}
use Rattle.asn1_types.specs.declared.scope.AssignmentPlace.{AssignmentPlace}
use Rattle.asn1_types.specs.declared.scope.Meaning.{Meaning}
use Rattle.asn1_types.specs.declared.scope.Meaning.TheVariants as meanings
use Rattle.asn1_types.specs.declared.tags_of_types.TagSet.{TagSet}
use Rattle.asn1_types.specs.Bounds.{DiffersInBounds, IsConstrained}
use Rattle.asn1_types.specs.Context.{Context, Grows, IsAdded, IsUnchanged, context_of}
use Rattle.asn1_types.specs.Definitions.{AreDefinitions, AreResolved, Continues, no_definitions}
use Rattle.asn1_types.specs.Cores.{IsAlternative, MeansType}
use Rattle.asn1_types.specs.Names.{IsAssigned, Refers}
use Rattle.asn1_types.specs.Notations.{AreParts, HasParts, IsAsItCame, IsBody, IsListOf, IsNotation, IsOpenType, IsOwn, IsPlain, is_set, list_by, number_of_part}
use Rattle.asn1_types.specs.Notations as notations_are
use Rattle.asn1_types.specs.Numbers.{AreNumbers}
use Rattle.asn1_types.specs.Parts.{IsFinished}
use Rattle.asn1_types.specs.PartsOf.{ArePartsOf, IsPartOf}
use Rattle.asn1_types.specs.Tagged.{IsTaggedBy}
use Rattle.asn1_types.specs.Tags.{tag_site, environment_of}
use Rattle.asn1_types.specs.Words.{IsNoWord}
use Rattle.asn1_types.specs.Written.{AreWritten}
use Rattle.asn1_types.proofs.Adding.{continues_outcome, is_in_place, is_inside}
use Rattle.asn1_types.proofs.Growing.{grow_parts}
use Rattle.asn1_syntax.specs.declared.token.Token.{Token}
use Rattle.asn1_syntax.specs.declared.tree.Component.{Component}
use Rattle.asn1_syntax.specs.declared.tree.ListHead.{ListHead}
use Rattle.asn1_syntax.specs.declared.tree.Module.{Module}
use Rattle.asn1_syntax.specs.declared.tree.PlainType.{PlainType}
use Rattle.asn1_syntax.specs.declared.tree.TagNotation.{TagNotation}
use Rattle.asn1_syntax.specs.declared.tree.TypeNotation.{TypeNotation}
use Rattle.asn1_syntax.specs.declared.tree.TypeNotation.TheVariants as trees

-- what is said of a context, in the same one
pub in_same : {a b : Resolver} (F : Context → Type 0) → IsUnchanged a b → F (context_of a) → F (context_of b)
in_same F same is = subst F (sym same.context) is

-- where nothing is resolved yet, all is
pub resolved_at_first : (r : Resolver) → r.definitions.items ≡ [] → r.tag_sets.items ≡ [] → AreResolved (context_of r)
resolved_at_first r none no_sets =
    subst (λ (ds : List Definition). AreDefinitions (context_of r) ds r.tag_sets.items) (sym none)
    (subst (λ (ss : List TagSet). AreDefinitions (context_of r) [] ss) (sym no_sets) no_definitions)

-- a context changes, within an assignment that is resolved within another one
pub continues_within : {a c d e : Resolver} → context_of c ≡ context_of a → Continues c d → context_of e ≡ context_of d →
    e.work.assignment ≡ a.work.assignment → Continues a e
continues_within {a} {c} {d} {e} before g after same =
    let from : Grows (context_of a) (context_of d) = subst (λ (k : Context). Grows k (context_of d)) before g.grows in
    record {
      grows = subst (λ (k : Context). Grows (context_of a) k) (sym after) from;
      resolved = λ all. subst AreResolved (sym after) (g.resolved (subst AreResolved (sym before) all));
      assignment = same;
    }

-- an assigned type, in a context with the same modules
pub assigned_in : {k c : Context} {m assignment : ℕ} {t : TypeNotation} → Grows k c → IsAssigned k.modules m assignment t → IsAssigned c.modules m assignment t
assigned_in {m = m} {assignment} {t} g is = subst (λ (x : List Module). IsAssigned x m assignment t) (sym g.modules) is

-- the parts of braces, in a context with the same modules
pub written_in : {k c : Context} (m : ℕ) (components : List (Component TypeNotation)) (section : Section) (written : List WrittenPart) → Grows k c →
    AreWritten k.modules k.known m components section written → AreWritten c.modules c.known m components section written
written_in {k} {c} m components section written g are =
    subst (λ (ms : List Module). AreWritten ms c.known m components section written) (sym g.modules)
    (subst (λ (ks : List KnownType). AreWritten k.modules ks m components section written) (sym g.known) are)

-- an alternative, in a context with the same modules
pub alternative_in : {k c : Context} (m from n : ℕ) (choice given t : TypeNotation) (name : Token) → Grows k c → from ≡ m → given ≡ choice →
    IsAlternative k.modules k.known from given name n t → IsAlternative c.modules c.known m choice name n t
alternative_in {k} {c} m from n choice given t name g at same is =
    subst (λ (ms : List Module). IsAlternative ms c.known m choice name n t) (sym g.modules)
    (subst (λ (ks : List KnownType). IsAlternative k.modules ks m choice name n t) (sym g.known)
    (subst (λ (x : ℕ). IsAlternative k.modules k.known x choice name n t) at
    (subst (λ (u : TypeNotation). IsAlternative k.modules k.known from u name n t) same is)))

-- what words refer to, in a context with the same modules
pub refers_in : {k c : Context} {m : ℕ} {words : List Token} {x : Meaning} → Grows k c → Refers k.modules k.known m words x →
    Refers c.modules c.known m words x
refers_in {k} {c} {m} {words} {x} g is =
    subst (λ (ms : List Module). Refers ms c.known m words x) (sym g.modules)
    (subst (λ (ks : List KnownType). Refers k.modules ks m words x) (sym g.known) is)

module _ (k : Context) (m : ℕ) (v : TypeNotation) where
  pub as_plain : (t : PlainType) (r : Result Notation Stop) → v ≡ trees.Plain t → IfOk r (IsPlain k m t) → IfOk r (IsNotation k m v)
  as_plain t (Ok n) is of = subst (λ (u : TypeNotation). IsNotation k m u n) (sym is) (notations_are.plain of)
  as_plain t (Err e) is of = tt

  pub as_tagged : (tag : TagNotation) (inner : Box TypeNotation) (n : Notation) (r : Result Notation Stop) → v ≡ trees.Tagged tag inner →
      IsNotation k m inner.value n → IfOk r (IsTaggedBy (tag_site k.modules k.known m) k.sets tag n) → IfOk r (IsNotation k m v)
  as_tagged tag inner n (Ok outer) is of tagged = subst (λ (u : TypeNotation). IsNotation k m u outer) (sym is) (notations_are.under_tag of tagged)
  as_tagged tag inner n (Err e) is of tagged = tt

  pub as_selected : (name : Token) (inner : Box TypeNotation) (other : ℕ) (t : TypeNotation) (r : Result Notation Stop) →
      v ≡ trees.Selected name inner → IsAlternative k.modules k.known m inner.value name other t → IfOk r (IsNotation k other t) → IfOk r (IsNotation k m v)
  as_selected name inner other t (Ok n) is chosen of = subst (λ (u : TypeNotation). IsNotation k m u n) (sym is) (notations_are.selected chosen of)
  as_selected name inner other t (Err e) is chosen of = tt

  pub as_list : (head : ListHead) (inner : Box TypeNotation) (n : Notation) (r : Result Notation Stop) → v ≡ trees.ListOf head inner →
      IsNotation k m inner.value n → IfOk r (IsListOf head.word n) → IfOk r (IsNotation k m v)
  as_list head inner n (Ok outer) is of made = subst (λ (u : TypeNotation). IsNotation k m u outer) (sym is) (notations_are.list of made)
  as_list head inner n (Err e) is of made = tt

  pub as_constrained : (inner : Box TypeNotation) (constraints : Vec (Vec Token)) (n : Notation) (r : Result Notation Stop) →
      v ≡ trees.Constrained inner constraints → IsNotation k m inner.value n → IfOk r (IsConstrained n) → IfOk r (IsNotation k m v)
  as_constrained inner constraints n (Ok outer) is of made =
      subst (λ (u : TypeNotation). IsNotation k m u outer) (sym is) (notations_are.with_constraints of made)
  as_constrained inner constraints n (Err e) is of made = tt

-- an open type, whose first word is none that begins a type
pub as_left_open : (k : Context) (t : PlainType) {word : Token} (r : Result (Option Notation) Stop) → slice_get t.words.items 0 ≡ Some word →
    IsNoWord word.text.now → IfOk r (λ found. IfSome found (IsOpenType k.is_incomplete t.words.items)) → IfOk r (λ found. IfSome found (IsOwn k t))
as_left_open k t (Ok (Some n)) first none is = notations_are.left_open first none is
as_left_open k t (Ok None) first none is = tt
as_left_open k t (Err e) first none is = tt

-- a type means the same, in a context with the same modules
means_in : {k c : Context} {m n : ℕ} {t u : TypeNotation} → Grows k c → MeansType k.modules k.known m t n u → MeansType c.modules c.known m t n u
means_in {k} {c} {m} {n} {t} {u} g is =
    subst (λ (ms : List Module). MeansType ms c.known m t n u) (sym g.modules)
    (subst (λ (ks : List KnownType). MeansType k.modules ks m t n u) (sym g.known) is)

-- a name of a type that it is in
pub as_in_itself : {k j : Context} (c : Context) (user : ℕ) (name : PlainType) (place : AssignmentPlace) {at other : ℕ} {t u : TypeNotation}
    (r : Result Notation Stop) → Grows k c → Grows j c → Refers k.modules k.known user name.words.items (meanings.Assigned place) →
    IsAssigned k.modules place.«module» place.assignment t → at ≡ place.«module» → MeansType j.modules j.known at t other u →
    IfOk r (IsAsItCame u) → IfOk r (IsPlain c user name)
as_in_itself {j = j} c user name place {other = other} {t = t} {u = u} (Ok n) g h refers assigned is means came =
    notations_are.in_itself (refers_in g refers) (assigned_in g assigned)
    (means_in h (subst (λ (x : ℕ). MeansType j.modules j.known x t other u) is means)) came
as_in_itself c user name place (Err e) g h refers assigned is means came = tt

-- the notation of an assigned type is that of its name
pub as_name : {k c : Context} (user : ℕ) (name : PlainType) (place : AssignmentPlace) {at : ℕ} {t : TypeNotation} {n : Notation} → Grows k c →
    Refers k.modules k.known user name.words.items (meanings.Assigned place) → IsAssigned k.modules place.«module» place.assignment t →
    at ≡ place.«module» → IsNotation c at t n → IsPlain c user name n
as_name {c = c} user name place {t = t} {n = n} g refers assigned is of =
    notations_are.of_name (refers_in g refers) (assigned_in g assigned) (subst (λ (x : ℕ). IsNotation c x t n) is of)

-- the same of a result
pub as_named : {k : Context} (c : Context) (user : ℕ) (name : PlainType) (place : AssignmentPlace) (at : ℕ) {t : TypeNotation}
    (r : Result Notation Stop) → Grows k c → Refers k.modules k.known user name.words.items (meanings.Assigned place) →
    IsAssigned k.modules place.«module» place.assignment t → at ≡ place.«module» → IfOk r (IsNotation c at t) → IfOk r (IsPlain c user name)
as_named c user name place at (Ok n) g refers assigned is of = as_name user name place g refers assigned is of
as_named c user name place at (Err e) g refers assigned is of = tt

pub as_list_of : (word : Token) (element : Notation) (content : Box Notation) (size : Size) (flag : Bool) (n : Notation) (r : Result Notation Stop) →
    content.value ≡ element → n ≡ list_by flag content size → flag ≡ is_set word → IfOk r (DiffersInBounds n) → IfOk r (IsListOf word element)
as_list_of word element content size flag n (Ok outer) value is set differs = record {
  content = content;
  value = value;
  size = size;
  bounds = subst (λ (x : Notation). DiffersInBounds x outer) (is ∙ ap (λ (b : Bool). list_by b content size) set) differs;
}
as_list_of word element content size flag n (Err e) value is set differs = tt

-- an assigned type is that of the same assignment, in the same modules
pub assigned_at : {modules others : List Module} {m at assignment other : ℕ} {t : TypeNotation} → IsAssigned modules m assignment t → others ≡ modules →
    at ≡ m → other ≡ assignment → IsAssigned others at other t
assigned_at {modules} {others} {m} {at} {assignment} {other} {t} is same same_module same_assignment =
    subst (λ (x : ℕ). IsAssigned others x other t) (sym same_module)
    (subst (λ (x : ℕ). IsAssigned others m x t) (sym same_assignment)
    (subst (λ (x : List Module). IsAssigned x m assignment t) (sym same) is))

pub continues_inside : {b e : Resolver} (place : Place) {tags : List TagLayer} {body : Body} (m : ℕ) (word : Token) (parts : List (Component TypeNotation))
    (r : Result ℕ Stop) → IfOk r (λ i. IsAdded (context_of b) (context_of e) i place b.work.assignment tags body) →
    OnErr r (context_of e ≡ context_of b) → e.work.assignment ≡ b.work.assignment → tags ≡ [] → IsBody (context_of b) m word parts body → Continues b e
continues_inside place m word parts r added failed same none is = continues_outcome r added failed same (λ i x. is_inside x m word parts none is)

pub as_in_place : {b : Context} (e : Context) (place : Place) (assignment : ℕ) {tags : List TagLayer} {body : Body} (m : ℕ) (word : Token)
    (parts : Vec (Component TypeNotation)) (v : TypeNotation) (r : Result ℕ Stop) → v ≡ trees.Constructed word parts →
    IfOk r (λ i. IsAdded b e i place assignment tags body) → tags ≡ [] → IsBody b m word parts.items body →
    IfOk r (λ i. IsNotation e m v (notations.Defined i))
as_in_place e place assignment m word parts v (Ok i) is added none of =
    subst (λ (u : TypeNotation). IsNotation e m u (notations.Defined i)) (sym is) (is_in_place added m word parts none of)
as_in_place e place assignment m word parts v (Err x) is added none of = tt

pub as_body : {k : Context} {m : ℕ} (word : Token) (components : List (Component TypeNotation)) {written : List WrittenPart} {parts : List Part}
    {section : Section} (r : Result Body Stop) → AreWritten k.modules k.known m components section written → ArePartsOf k m written parts →
    IfOk r (HasParts word parts) → IfOk r (IsBody k m word components)
as_body word components (Ok body) are of has = notations_are.of_parts are of.are_numbers of.are has
as_body word components (Err e) are of has = tt

pub as_part : {k : Context} (w : WrittenPart) (number : Option ℕ) {n : Notation} (r : Result Part Stop) → IsNotation k w.module w.notation.now n →
    IfOk r (IsFinished k.known k.sets w number n) → IfOk r (IsPartOf k w number)
as_part w number {n = n} (Ok part) is finished = record { n = n; is = is; finished = finished }
as_part w number (Err e) is finished = tt

-- one more part is resolved
pub parts_more : {k c : Context} (numbers : List (Option ℕ)) (before after : List WrittenPart) (w : WrittenPart) (number : Option ℕ) (i : ℕ)
    {parts : List Part} {part : Part} → Grows k c → AreParts k numbers before parts → after ≡ before ++ w ∷ [] → length before ≡ i →
    number ≡ number_of_part numbers i → IsPartOf c w number part → AreParts c numbers after (parts ++ part ∷ [])
parts_more {c = c} numbers before after w number i {parts} {part} g are is at numbered of =
    let same : number ≡ number_of_part numbers (length before) = numbered ∙ ap (number_of_part numbers) (sym at) in
    let finished : IsFinished c.known c.sets w (number_of_part numbers (length before)) of.n part =
    subst (λ (x : Option ℕ). IsFinished c.known c.sets w x of.n part) same of.finished in
    subst (λ (l : List WrittenPart). AreParts c numbers l (parts ++ part ∷ [])) (sym is) (notations_are.one_more (grow_parts g are) of.is finished)

-- the same of the part at an index
pub parts_next : {k c : Context} (numbers given : List (Option ℕ)) (sources : List WrittenPart) (i : ℕ) (w : WrittenPart) (number : Option ℕ)
    {parts : List Part} {part : Part} → Grows k c → AreParts k numbers (take i sources) parts → i < length sources → w ≡ get_or sources i w →
    given ≡ numbers → number ≡ number_of_part given i → IsPartOf c w number part → AreParts c numbers (take (i + 1) sources) (parts ++ part ∷ [])
parts_next numbers given sources i w number g are below at same numbered of =
    parts_more numbers (take i sources) (take (i + 1) sources) w number i g are
    (take_more sources i w below ∙ ap (λ (x : WrittenPart). take i sources ++ x ∷ []) (sym at)) (length-take-le i sources (omega (arith, below)))
    (numbered ∙ ap (λ (ns : List (Option ℕ)). number_of_part ns i) same) of

-- all parts are resolved
pub parts_all : {k c : Context} (m : ℕ) {numbers : List (Option ℕ)} (written : List WrittenPart) (front : List WrittenPart) {parts : List Part} →
    Grows k c → front ≡ written → AreNumbers (environment_of k.modules m) written numbers → AreParts c numbers front parts → ArePartsOf c m written parts
parts_all {c = c} m {numbers} written front {parts} g is numbered are = record {
  numbers = numbers;
  are_numbers = subst (λ (x : List Module). AreNumbers (environment_of x m) written numbers) (sym g.modules) numbered;
  are = subst (λ (l : List WrittenPart). AreParts c numbers l parts) is are;
}
