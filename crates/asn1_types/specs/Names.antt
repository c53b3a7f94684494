-- What names of types mean in modules (X.680, 13.10 to 13.17 and 14.6).
use Rattle.std.specs.Prelude.{◌≡◌, ◌&&◌, ◌||◌, ℕ, Bool, true, List, Option, Some, None, [], ◌∷◌, codes, position, slice_get}
use Rattle.std.specs.Global.{Vec}
use Rattle.std.specs.List.{list_any}
use Rattle.std.specs.Str.{bytes_eq}
use Rattle.asn1_types.specs.declared.model.KnownType.{KnownType}
use Rattle.asn1_types.specs.declared.scope.Meaning.{Meaning}
use Rattle.asn1_types.specs.declared.scope.Meaning.TheVariants as meanings
use Rattle.asn1_types.specs.declared.scope.Step.{Step}
use Rattle.asn1_types.specs.declared.scope.Step.TheVariants as steps
use Rattle.asn1_syntax.specs.declared.token.Token.{Token}
use Rattle.asn1_syntax.specs.declared.tree.Assignment.{Assignment}
use Rattle.asn1_syntax.specs.declared.tree.Assignment.TheVariants as assignments
use Rattle.asn1_syntax.specs.declared.tree.Import.{Import}
use Rattle.asn1_syntax.specs.declared.tree.Module.{Module}
use Rattle.asn1_syntax.specs.declared.tree.TypeNotation.{TypeNotation}

-- whether a lexical item has this text
abbrev pub has_text : List ℕ → Token → Bool
has_text text token = bytes_eq token.text.now text

-- the name that is assigned
abbrev pub name_of : Assignment → Token
name_of (assignments.Type name t) = name
name_of (assignments.Value name t tokens) = name
name_of (assignments.ParameterizedType name parameters t) = name
name_of (assignments.ParameterizedValue name parameters t tokens) = name
name_of (assignments.Class name parameters fields) = name

-- the type that an assignment gives a name
abbrev pub assigned_by : Assignment → Option TypeNotation
assigned_by (assignments.Type name t) = Some t
assigned_by (assignments.Value name t tokens) = None
assigned_by (assignments.ParameterizedType name parameters t) = Some t
assigned_by (assignments.ParameterizedValue name parameters t tokens) = None
assigned_by (assignments.Class name parameters fields) = None

abbrev pub assignment_there : Option Module → ℕ → Option Assignment
assignment_there None assignment = None
assignment_there (Some m) assignment = slice_get m.assignments.items assignment

-- a type is assigned in the module at an index, by the assignment at an index there
pub record IsAssigned (modules : List Module) (m assignment : ℕ) (t : TypeNotation) : Type 0 where
  pub there : Assignment
  pub is : assignment_there (slice_get modules m) assignment ≡ Some there
  pub assigns : assigned_by there ≡ Some t

-- 13.15: the index of the assignment of a name in a module. Two assignments of one name are rejected, and the first of them is taken
abbrev pub assigned_index : List ℕ → Module → Option ℕ
assigned_index text m = position (λ (a : Assignment). has_text text (name_of a)) m.assignments.items

-- the index of the module of a name
abbrev pub module_index : List ℕ → List Module → Option ℕ
module_index text modules = position (λ (m : Module). has_text text m.name) modules

-- the index of the type of another crate, by the names of its module and of itself
abbrev pub known_index : List ℕ → List ℕ → List KnownType → Option ℕ
known_index from text known = position (λ (row : KnownType). bytes_eq row.module.now from && bytes_eq row.name.now text) known

-- 13.16: whether names that are imported from one module have this one among them
abbrev pub imports_name : List ℕ → Import → Bool
imports_name text import = has_text text import.first || list_any (has_text text) import.others.items

-- 13.16: a name is among those that a module imports from the module of another name
pub record IsImportedFrom (here : Module) (text from : List ℕ) : Type 0 where
  pub imports : Vec Import
  pub import : Import
  pub index : ℕ
  pub is : here.imports ≡ Some imports
  pub there : slice_get imports.items index ≡ Some import
  pub named : imports_name text import ≡ true
  pub from_is : from ≡ import.module.text.now

-- 13.12 and 13.13: whether a module exports a name
abbrev pub exports : List ℕ → Option (Vec Token) → Bool
exports text None = true
exports text (Some names) = list_any (has_text text) names.items || list_any (has_text (codes "ALL")) names.items

mutual
  -- 13.14 and 13.16: what a name means in the module at an index. It is what is assigned there; what no assignment there has is imported
  pub data Means (modules : List Module) (known : List KnownType) (text : List ℕ) : ℕ → Meaning → Type 0 where
    assigned : {m assignment : ℕ} (here : Module) → slice_get modules m ≡ Some here → assigned_index text here ≡ Some assignment →
        Means modules known text m (meanings.Assigned (record { «module» = m; assignment = assignment }))
    imported : {m : ℕ} {x : Meaning} (here : Module) (from : List ℕ) → slice_get modules m ≡ Some here → assigned_index text here ≡ None →
        IsImportedFrom here text from → MeansFrom modules known text from x → Means modules known text m x

  -- what a name means that is imported from the module of another name: a type of another crate, or what it means in that module, which exports it
  pub data MeansFrom (modules : List Module) (known : List KnownType) (text : List ℕ) : List ℕ → Meaning → Type 0 where
    of_crate : {from : List ℕ} {index : ℕ} → known_index from text known ≡ Some index → MeansFrom modules known text from (meanings.Known index)
    of_module : {from : List ℕ} {m : ℕ} {x : Meaning} (exporter : Module) → known_index from text known ≡ None → module_index from modules ≡ Some m →
        slice_get modules m ≡ Some exporter → exports text exporter.exports ≡ true → Means modules known text m x → MeansFrom modules known text from x

-- one step of a search for a name in the module at an index: what it means, or the index of a module in which it means the same
abbrev pub IsStep : List Module → List KnownType → List ℕ → ℕ → Step → Type 0
IsStep modules known text m (steps.Assigned place) = Means modules known text m (meanings.Assigned place)
IsStep modules known text m (steps.Known index) = Means modules known text m (meanings.Known index)
IsStep modules known text m (steps.Module next) = (x : Meaning) → Means modules known text next x → Means modules known text m x

-- the same of a name that is imported from the module of another name
abbrev pub IsStepFrom : List Module → List KnownType → List ℕ → List ℕ → Step → Type 0
IsStepFrom modules known text from (steps.Assigned place) = MeansFrom modules known text from (meanings.Assigned place)
IsStepFrom modules known text from (steps.Known index) = MeansFrom modules known text from (meanings.Known index)
IsStepFrom modules known text from (steps.Module next) = (x : Meaning) → Means modules known text next x → MeansFrom modules known text from x

-- 14.6 and 17.3: what the words of a reference mean in the module at an index: a name, or the name of a module, a dot and a name
pub data Refers (modules : List Module) (known : List KnownType) (m : ℕ) (words : List Token) (x : Meaning) : Type 0 where
  by_name : {name : Token} → words ≡ name ∷ [] → Means modules known name.text.now m x → Refers modules known m words x
  by_module : {from dot name : Token} → words ≡ from ∷ dot ∷ name ∷ [] → has_text (codes ".") dot ≡ true →
      MeansFrom modules known name.text.now from.text.now x → Refers modules known m words x
