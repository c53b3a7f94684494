-- Values of INTEGER, through names (X.680, 13.14 to 13.17 and 19).
use Rattle.std.specs.Prelude.{◌≡◌, ◌↔◌, ℕ, Bool, true, false, List, Option, Some, None, [], ◌∷◌, codes, slice_get, IsTrue}
use Rattle.std.specs.Str.Parse.{IsNumeral, digits_value, without_leading_plus}
use Rattle.asn1_types.specs.declared.model.Integer.{Integer}
use Rattle.asn1_types.specs.declared.model.KnownType.{KnownType}
use Rattle.asn1_types.specs.declared.scope.AssignmentPlace.{AssignmentPlace}
use Rattle.asn1_types.specs.declared.scope.Meaning.TheVariants as meanings
use Rattle.asn1_types.specs.Names.{Means, assignment_there, has_text}
use Rattle.asn1_syntax.specs.declared.token.Token.{Token}
use Rattle.asn1_syntax.specs.declared.tree.Assignment.{Assignment}
use Rattle.asn1_syntax.specs.declared.tree.Assignment.TheVariants as assignments
use Rattle.asn1_syntax.specs.declared.tree.Module.{Module}

-- decimal digits, which a plus may be before, are a number
pub record IsDecimal (text : List ℕ) (n : ℕ) : Type 0 where
  pub digits : IsNumeral 10 (without_leading_plus text)
  pub value : digits_value 10 (without_leading_plus text) ≡ n

-- an integer is that of a number, and of a minus before it. Zero is not negative
pub record IsOfSign (minus : Bool) (n : ℕ) (x : Integer) : Type 0 where
  pub magnitude : x.magnitude ≡ n
  pub sign : IsTrue x.is_negative ↔ (IsTrue minus × (n ≡ 0 → ⊥))

-- an integer is that of decimal digits, and of a minus before them
pub record IsLiteral (minus : Bool) (text : List ℕ) (x : Integer) : Type 0 where
  pub n : ℕ
  pub decimal : IsDecimal text n
  pub is_signed : IsOfSign minus n x

-- the lexical items of the value that an assignment gives a name
abbrev pub value_assigned : Assignment → Option (List Token)
value_assigned (assignments.Type name t) = None
value_assigned (assignments.Value name t tokens) = Some tokens.items
value_assigned (assignments.ParameterizedType name parameters t) = None
value_assigned (assignments.ParameterizedValue name parameters t tokens) = None
value_assigned (assignments.Class name parameters fields) = None

-- the name of a value means lexical items of the module at an index
pub record IsValueNamed (modules : List Module) (known : List KnownType) (m : ℕ) (name : List ℕ) (other : ℕ) (value : List Token) : Type 0 where
  pub place : AssignmentPlace
  pub means : Means modules known name m (meanings.Assigned place)
  pub there : Assignment
  pub is : assignment_there (slice_get modules place.«module») place.assignment ≡ Some there
  pub assigns : value_assigned there ≡ Some value
  pub at : other ≡ place.«module»

-- lexical items of the module at an index are an integer: digits, a minus and digits, or the name of such a value
pub data MeansInteger (modules : List Module) (known : List KnownType) (x : Integer) : ℕ → List Token → Type 0 where
  digits : {m : ℕ} {token : Token} → IsLiteral false token.text.now x → MeansInteger modules known x m (token ∷ [])
  negative : {m : ℕ} {minus token : Token} → has_text (codes "-") minus ≡ true → IsLiteral true token.text.now x →
      MeansInteger modules known x m (minus ∷ token ∷ [])
  by_name : {m other : ℕ} {name : Token} {value : List Token} → IsValueNamed modules known m name.text.now other value →
      MeansInteger modules known x other value → MeansInteger modules known x m (name ∷ [])

-- the number of a tag that is written: a value that isn't negative
pub record IsTagNumber (modules : List Module) (known : List KnownType) (m : ℕ) (token : Token) (number : ℕ) : Type 0 where
  pub x : Integer
  pub is : MeansInteger modules known x m (token ∷ [])
  pub positive : x.is_negative ≡ false
  pub number_is : number ≡ x.magnitude
