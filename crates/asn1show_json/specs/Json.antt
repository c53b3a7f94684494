-- The JSON of elements (RFC 8259), by its tokens.
use Rattle.std.specs.Prelude.{◌≡◌, ℕ, zero, suc, Bool, true, false, List, [], ◌∷◌, ◌++◌, length, map, codes, decimal, Option, Some, None}
use Rattle.std.specs.Borrow.{Bor}
use Rattle.json.specs.Lex.{tokens}
use Rattle.json.specs.Print.{print}
use Rattle.json.specs.Token.{Token, begin_object, end_object, begin_array, end_array, key, string, number, boolean, null}
use Rattle.yasna_base.specs.declared.tag.PCBit.{PCBit}
use Rattle.yasna_base.specs.declared.tag.PCBit.TheVariants.{Primitive, Constructed}
use Rattle.yasna_base.specs.declared.tag.TagClass.{TagClass}
use Rattle.yasna_base.specs.declared.tag.TagClass.TheVariants.{Universal, Application, ContextSpecific, Private}
use Rattle.asn1show_walk.specs.declared.listing.item.Item.{Item}

abbrev pub class_name : TagClass → List ℕ
class_name Universal = codes "universal"
class_name Application = codes "application"
class_name ContextSpecific = codes "context-specific"
class_name Private = codes "private"

abbrev pub is_constructed : PCBit → Bool
is_constructed Primitive = false
is_constructed Constructed = true

-- a length in octets, or null if it is indefinite
abbrev pub length_token : Option ℕ → Token
length_token (Some n) = number (decimal n)
length_token None = null

-- a value, or null if there is none
abbrev pub value_token : Option (Bor (List ℕ)) → Token
value_token (Some text) = string text.now
value_token None = null

-- the members for the place and the lengths of an element
abbrev pub place_tokens : Item → List Token
place_tokens i =
    key (codes "offset") ∷ number (decimal i.offset) ∷ key (codes "header") ∷ number (decimal i.header) ∷ key (codes "length") ∷ length_token i.size ∷ []

-- the members for the tag of an element
abbrev pub tag_tokens : Item → List Token
tag_tokens i =
    key (codes "class") ∷ string (class_name i.tag.tag_class) ∷ key (codes "tag") ∷ number (decimal i.tag.tag_number)
    ∷ key (codes "constructed") ∷ boolean (is_constructed i.bit) ∷ []

-- the member for a name that a module gives, if it gives one
abbrev pub name_tokens : List ℕ → Option (Bor (List ℕ)) → List Token
name_tokens member (Some name) = key member ∷ string name.now ∷ []
name_tokens member None = []

-- the members of an element before its diagnostics: with the names of its part and its alternative, if it has them
abbrev pub member_tokens : Item → Option (Bor (List ℕ)) → Option (Bor (List ℕ)) → Option (Bor (List ℕ)) → List Token
member_tokens i part alternative value =
    place_tokens i ++ (tag_tokens i ++ (name_tokens (codes "field") part ++ (name_tokens (codes "alternative") alternative
    ++ (key (codes "value") ∷ value_token value ∷ []))))

-- the member for diagnostics with these texts
abbrev pub diagnostic_tokens : List (List ℕ) → List Token
diagnostic_tokens texts = key (codes "diagnostics") ∷ begin_array ∷ (map string texts ++ (end_array ∷ []))

-- an element up to the elements in it
abbrev pub element_tokens : Item → Option (Bor (List ℕ)) → Option (Bor (List ℕ)) → Option (Bor (List ℕ)) → List (List ℕ) → List Token
element_tokens i part alternative value texts =
    begin_object ∷ (member_tokens i part alternative value ++ (diagnostic_tokens texts ++ (key (codes "children") ∷ begin_array ∷ [])))

-- the ends of this many elements, one in the other
abbrev pub end_tokens : ℕ → List Token
end_tokens zero = []
end_tokens (suc n) = end_array ∷ end_object ∷ end_tokens n

-- a text is the JSON of tokens: it is printed of them, and a reader of JSON finds them in it, strings by their characters (RFC 8259, 7)
pub record IsJson (text : List ℕ) (ts : List Token) : Type 0 where
  pub printed : text ≡ print ts
  pub reads_back : tokens text ≡ ts

-- a text is the JSON of the ends of elements, and of an element with so many diagnostics up to the elements in it
pub record IsElementJson (ends : ℕ) (i : Item) (part alternative value : Option (Bor (List ℕ))) (diagnostics : ℕ) (text : List ℕ) : Type 0 where
  pub texts : List (List ℕ)
  pub counted : length texts ≡ diagnostics
  pub json : IsJson text (end_tokens ends ++ element_tokens i part alternative value texts)
