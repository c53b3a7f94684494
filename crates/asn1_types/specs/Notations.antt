-- The notations of types, and the bodies of SEQUENCEs, SETs and CHOICEs, as X.680 has them of what modules write.
use Rattle.std.specs.Prelude.{◌≡◌, ℕ, Bool, true, false, List, Option, Some, None, [], ◌∷◌, ◌++◌, length, map, codes, slice_get}
use Rattle.std.specs.Global.{Box, Vec}
use Rattle.std.specs.List.{list_any}
use Rattle.std.specs.Str.{bytes_eq}
use Rattle.asn1_types.specs.declared.builtins.Builtin.{Builtin}
use Rattle.asn1_types.specs.declared.builtins.Builtin.TheVariants as builtins
use Rattle.asn1_types.specs.declared.components.WrittenPart.{WrittenPart}
use Rattle.asn1_types.specs.declared.model.Alternative.{Alternative}
use Rattle.asn1_types.specs.declared.model.Body.{Body}
use Rattle.asn1_types.specs.declared.model.Body.TheVariants as bodies
use Rattle.asn1_types.specs.declared.model.Definition.{Definition}
use Rattle.asn1_types.specs.declared.model.IntegerBounds.{IntegerBounds}
use Rattle.asn1_types.specs.declared.model.Loosening.{Loosening}
use Rattle.asn1_types.specs.declared.model.Notation.{Notation}
use Rattle.asn1_types.specs.declared.model.Notation.TheVariants as notations
use Rattle.asn1_types.specs.declared.model.Part.{Part}
use Rattle.asn1_types.specs.declared.model.Size.{Size}
use Rattle.asn1_types.specs.declared.model.TagClass.{TagClass}
use Rattle.asn1_types.specs.declared.model.TagLayer.{TagLayer}
use Rattle.asn1_types.specs.declared.model.TagMode.TheVariants as modes
use Rattle.asn1_types.specs.declared.model.TextKind.{TextKind}
use Rattle.asn1_types.specs.declared.components.Section.{Section}
use Rattle.asn1_types.specs.declared.model.Enumeration.{Enumeration}
use Rattle.asn1_types.specs.declared.scope.AssignmentPlace.{AssignmentPlace}
use Rattle.asn1_types.specs.declared.scope.Meaning.TheVariants as meanings
use Rattle.asn1_types.specs.Bounds.{DiffersInBounds, IsConstrained}
use Rattle.asn1_types.specs.Context.{Context}
use Rattle.asn1_types.specs.Cores.{IsAlternative, MeansType}
use Rattle.asn1_types.specs.Names.{IsAssigned, Refers, assignment_there, has_text, name_of}
use Rattle.asn1_types.specs.Numbers.{AreNumbers}
use Rattle.asn1_types.specs.Parts.{IsFinished}
use Rattle.asn1_types.specs.Tagged.{IsTaggedBy, IsUnder}
use Rattle.asn1_types.specs.Tags.{tag_site, class_written, environment_of}
use Rattle.asn1_types.specs.Trees.{IsWithin}
use Rattle.asn1_types.specs.Words.{IsNoWord, IsWordOf}
use Rattle.asn1_types.specs.Written.{AreWritten}
use Rattle.asn1_syntax.specs.declared.token.Token.{Token}
use Rattle.asn1_syntax.specs.declared.tree.Assignment.{Assignment}
use Rattle.asn1_syntax.specs.declared.tree.Component.{Component}
use Rattle.asn1_syntax.specs.declared.tree.ListHead.{ListHead}
use Rattle.asn1_syntax.specs.declared.tree.PlainType.{PlainType}
use Rattle.asn1_syntax.specs.declared.tree.TagNotation.{TagNotation}
use Rattle.asn1_syntax.specs.declared.tree.TypeNotation.{TypeNotation}
use Rattle.asn1_syntax.specs.declared.tree.TypeNotation.TheVariants as trees

-- the notation of a type that has a word of its own and is no ENUMERATED. What is in braces after INTEGER and BIT STRING are names
pub data IsOfBuiltin (n : Notation) (b : Builtin) : Type 0 where
  boolean : b ≡ builtins.Boolean → n ≡ notations.Boolean → IsOfBuiltin n b
  null : b ≡ builtins.Null → n ≡ notations.Null → IsOfBuiltin n b
  integer : {bounds : IntegerBounds} {names : Option ℕ} → b ≡ builtins.Integer → n ≡ notations.Integer bounds names → IsOfBuiltin n b
  object_identifier : b ≡ builtins.ObjectIdentifier → n ≡ notations.ObjectIdentifier → IsOfBuiltin n b
  octet_string : {size : Size} → b ≡ builtins.OctetString → n ≡ notations.OctetString size → IsOfBuiltin n b
  bit_string : {size : Size} → b ≡ builtins.BitString → n ≡ notations.BitString size → IsOfBuiltin n b
  named_bits : {size : Size} {names : Option ℕ} → b ≡ builtins.BitString → n ≡ notations.NamedBits size names → IsOfBuiltin n b
  text : {kind : TextKind} {size : Size} → b ≡ builtins.Text kind → n ≡ notations.Text kind size → IsOfBuiltin n b
  utc_time : b ≡ builtins.UtcTime → n ≡ notations.UtcTime → IsOfBuiltin n b
  generalized_time : b ≡ builtins.GeneralizedTime → n ≡ notations.GeneralizedTime → IsOfBuiltin n b
  any : b ≡ builtins.Any → n ≡ notations.Any → IsOfBuiltin n b
  octets_under : {tag : ℕ} {what : Loosening} → b ≡ builtins.Octets tag what → n ≡ notations.OctetsUnder tag → IsOfBuiltin n b
  elements_under : {tag : ℕ} → b ≡ builtins.Elements tag → n ≡ notations.ElementsUnder tag → IsOfBuiltin n b

-- the notation of a field of a class (X.681): the type that the class gives it, if that has one of these words, or any element
pub data IsOfField (n : Notation) : Type 0 where
  any_field : n ≡ notations.Any → IsOfField n
  identifier_field : n ≡ notations.ObjectIdentifier → IsOfField n
  integer_field : {bounds : IntegerBounds} {names : Option ℕ} → n ≡ notations.Integer bounds names → IsOfField n
  boolean_field : n ≡ notations.Boolean → IsOfField n

-- a type that is left open: any element for a parameter, which is one word (X.683), and a field of a class, which `&` is before. Where modules may be
-- absent, one word is also the name of a type that no module gives
pub data IsOpenType (is_incomplete : Bool) (words : List Token) (n : Notation) : Type 0 where
  parameter : {name : Token} → words ≡ name ∷ [] → n ≡ notations.Any → IsOpenType is_incomplete words n
  field : list_any (has_text (codes "&")) words ≡ true → IsOfField n → IsOpenType is_incomplete words n
  no_type : {name : Token} → is_incomplete ≡ true → words ≡ name ∷ [] → n ≡ notations.Missing → IsOpenType is_incomplete words n

-- the definition at an index is that of the assignment at a place: its own place is that of the name that is assigned
pub record IsDefinedAt (c : Context) (place : AssignmentPlace) (index : ℕ) : Type 0 where
  pub definition : Definition
  pub there : Assignment
  pub defined : slice_get c.definitions index ≡ Some definition
  pub assigned : assignment_there (slice_get c.modules place.«module») place.assignment ≡ Some there
  pub «module» : definition.place.«module» ≡ place.«module»
  pub offset : definition.place.offset ≡ (name_of there).offset
  pub assignment : definition.assignment ≡ place.assignment

-- the definition at an index is an ENUMERATED, without tags
pub record IsEnumeratedAt (c : Context) (index : ℕ) : Type 0 where
  pub definition : Definition
  pub items : Enumeration
  pub there : slice_get c.definitions index ≡ Some definition
  pub tags : definition.tags.items ≡ []
  pub body : definition.body ≡ bodies.Enumerated items

-- a notation is that of a type whose first word is one of its own, or which is left open and begins with no such word
pub data IsOwn (c : Context) (t : PlainType) (n : Notation) : Type 0 where
  builtin : {word : Token} {b : Builtin} → slice_get t.words.items 0 ≡ Some word → IsWordOf b word.text.now → IsOfBuiltin n b → IsOwn c t n
  enumerated : {word : Token} {index : ℕ} → slice_get t.words.items 0 ≡ Some word → IsWordOf builtins.Enumerated word.text.now →
      n ≡ notations.Defined index → IsEnumeratedAt c index → IsOwn c t n
  left_open : {word : Token} → slice_get t.words.items 0 ≡ Some word → IsNoWord word.text.now → IsOpenType c.is_incomplete t.words.items n → IsOwn c t n

-- a SET OF or a SEQUENCE OF, of an element in a box
abbrev pub list_by : Bool → Box Notation → Size → Notation
list_by true content size = notations.SetOf content size
list_by false content size = notations.SequenceOf content size

abbrev pub is_set : Token → Bool
is_set word = bytes_eq word.text.now (codes "SET")

abbrev pub is_sequence : Token → Bool
is_sequence word = bytes_eq word.text.now (codes "SEQUENCE")

-- the elements of a SET, a SET OF, a SEQUENCE or a SEQUENCE OF, as they came under its tag; any element of another type
abbrev pub elements_by : Bool → Bool → Notation
elements_by true sequence = notations.ElementsUnder 17
elements_by false true = notations.ElementsUnder 16
elements_by false false = notations.Any

pub data HasElements (t : TypeNotation) (n : Notation) : Type 0 where
  of_list : {head : ListHead} {inner : Box TypeNotation} → t ≡ trees.ListOf head inner → n ≡ elements_by (is_set head.word) true → HasElements t n
  of_body : {word : Token} (parts : Vec (Component TypeNotation)) → t ≡ trees.Constructed word parts →
      n ≡ elements_by (is_set word) (is_sequence word) → HasElements t n
  of_other : ((head : ListHead) (inner : Box TypeNotation) → t ≡ trees.ListOf head inner → ⊥) →
      ((word : Token) (parts : Vec (Component TypeNotation)) → t ≡ trees.Constructed word parts → ⊥) → n ≡ notations.Any → HasElements t n

-- the elements of a type, without the tags before it and the constraints after it
pub record IsElementsOf (t : TypeNotation) (n : Notation) : Type 0 where
  pub inner : TypeNotation
  pub within : IsWithin t inner
  pub has : HasElements inner n

-- elements that are kept as they came, under a tag of this class
pub record IsUnderLayer (class : TagClass) (n : Notation) : Type 0 where
  pub layer : TagLayer
  pub of_class : layer.class ≡ class
  pub mode : layer.mode ≡ modes.Implicit
  pub under : IsUnder layer (notations.ElementsUnder 16) n

-- a type whose elements are kept as they came: under the tag that is written before it, or else by what it is
pub data IsAsItCame (t : TypeNotation) (n : Notation) : Type 0 where
  under_its_tag : {tag : TagNotation} {inner : Box TypeNotation} → t ≡ trees.Tagged tag inner → IsUnderLayer (class_written tag.class) n → IsAsItCame t n
  by_itself : ((tag : TagNotation) (inner : Box TypeNotation) → t ≡ trees.Tagged tag inner → ⊥) → IsElementsOf t n → IsAsItCame t n

-- a SEQUENCE OF or a SET OF, of its word, with the constraint before OF
pub record IsListOf (word : Token) (element outer : Notation) : Type 0 where
  pub content : Box Notation
  pub value : content.value ≡ element
  pub size : Size
  pub bounds : DiffersInBounds (list_by (is_set word) content size) outer

abbrev pub alternative_of : Part → Alternative
alternative_of part = record { place = part.place; name = part.name; notation = part.notation; is_addition = part.is_addition }

-- a body of a word and parts
abbrev pub HasParts : Token → List Part → Body → Type 0
HasParts word parts (bodies.Sequence components) = (is_sequence word ≡ true) × (components.parts.items ≡ parts)
HasParts word parts (bodies.Set components) = (is_set word ≡ true) × (components.parts.items ≡ parts)
HasParts word parts (bodies.Choice choice) = (is_sequence word ≡ false) × (is_set word ≡ false) × (choice.alternatives.items ≡ map alternative_of parts)
HasParts word parts (bodies.Enumerated items) = ⊥
HasParts word parts (bodies.Value n) = ⊥
HasParts word parts (bodies.Alias n) = ⊥

-- the number at an index, if there is one
abbrev pub number_there : Option (Option ℕ) → Option ℕ
number_there None = None
number_there (Some number) = number

abbrev pub number_of_part : List (Option ℕ) → ℕ → Option ℕ
number_of_part numbers index = number_there (slice_get numbers index)

mutual
  -- a notation is that of a type, which the module at an index writes
  pub data IsNotation (c : Context) : ℕ → TypeNotation → Notation → Type 0 where
    plain : {m : ℕ} {t : PlainType} {n : Notation} → IsPlain c m t n → IsNotation c m (trees.Plain t) n
    under_tag : {m : ℕ} {tag : TagNotation} {inner : Box TypeNotation} {n outer : Notation} → IsNotation c m inner.value n →
        IsTaggedBy (tag_site c.modules c.known m) c.sets tag n outer → IsNotation c m (trees.Tagged tag inner) outer
    selected : {m other : ℕ} {name : Token} {inner : Box TypeNotation} {t : TypeNotation} {n : Notation} →
        IsAlternative c.modules c.known m inner.value name other t → IsNotation c other t n → IsNotation c m (trees.Selected name inner) n
    list : {m : ℕ} {head : ListHead} {inner : Box TypeNotation} {n outer : Notation} → IsNotation c m inner.value n →
        IsListOf head.word n outer → IsNotation c m (trees.ListOf head inner) outer
    in_place : {m index : ℕ} {word : Token} (parts : Vec (Component TypeNotation)) {definition : Definition} →
        slice_get c.definitions index ≡ Some definition → definition.tags.items ≡ [] → IsBody c m word parts.items definition.body →
        IsNotation c m (trees.Constructed word parts) (notations.Defined index)
    with_constraints : {m : ℕ} {inner : Box TypeNotation} {constraints : Vec (Vec Token)} {n outer : Notation} → IsNotation c m inner.value n →
        IsConstrained n outer → IsNotation c m (trees.Constrained inner constraints) outer

  -- a notation is that of a type in which no other type is, in the module at an index. A name means a type of another crate, the definition of an
  -- assigned type, or that type's notation. Of a type inside itself it is what the name means, with its elements as they came
  pub data IsPlain (c : Context) : ℕ → PlainType → Notation → Type 0 where
    own : {m : ℕ} {t : PlainType} {n : Notation} → IsOwn c t n → IsPlain c m t n
    of_crate : {m index : ℕ} {t : PlainType} → Refers c.modules c.known m t.words.items (meanings.Known index) → IsPlain c m t (notations.Imported index)
    of_definition : {m index : ℕ} {t : PlainType} {place : AssignmentPlace} →
        Refers c.modules c.known m t.words.items (meanings.Assigned place) → IsDefinedAt c place index → IsPlain c m t (notations.Defined index)
    of_name : {m : ℕ} {t : PlainType} {place : AssignmentPlace} {assigned : TypeNotation} {n : Notation} →
        Refers c.modules c.known m t.words.items (meanings.Assigned place) → IsAssigned c.modules place.«module» place.assignment assigned →
        IsNotation c place.«module» assigned n → IsPlain c m t n
    in_itself : {m other : ℕ} {t : PlainType} {place : AssignmentPlace} {assigned meant : TypeNotation} {n : Notation} →
        Refers c.modules c.known m t.words.items (meanings.Assigned place) → IsAssigned c.modules place.«module» place.assignment assigned →
        MeansType c.modules c.known place.«module» assigned other meant → IsAsItCame meant n → IsPlain c m t n

  -- a body is that of a word and of what is in braces after it, in the module at an index
  pub data IsBody (c : Context) : ℕ → Token → List (Component TypeNotation) → Body → Type 0 where
    of_parts : {m : ℕ} {word : Token} {components : List (Component TypeNotation)} {body : Body} {written : List WrittenPart}
        {numbers : List (Option ℕ)} {parts : List Part} {section : Section} → AreWritten c.modules c.known m components section written →
        AreNumbers (environment_of c.modules m) written numbers →
        AreParts c numbers written parts → HasParts word parts body → IsBody c m word components body

  -- parts are those that are written, each with the notation of its type and its number. 24.7: only numbers of automatic tags are there
  pub data AreParts (c : Context) : List (Option ℕ) → List WrittenPart → List Part → Type 0 where
    no_parts : {numbers : List (Option ℕ)} → AreParts c numbers [] []
    one_more : {numbers : List (Option ℕ)} {written : List WrittenPart} {parts : List Part} {w : WrittenPart} {n : Notation} {part : Part} →
        AreParts c numbers written parts → IsNotation c w.module w.notation.now n →
        IsFinished c.known c.sets w (number_of_part numbers (length written)) n part → AreParts c numbers (written ++ w ∷ []) (parts ++ part ∷ [])
