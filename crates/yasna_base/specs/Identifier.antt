-- The identifier octets of a tag (X.690, 8.1.2).
use Rattle.std.specs.Prelude.{◌≡◌, ℕ, ◌+◌, ◌*◌, ◌^◌, ◌<◌, ◌≤◌, List, [], ◌∷◌, ◌++◌, if◌then◌else◌, nat_lt, Option, Some, None, Result, Ok, Err}
use Rattle.std.specs.Borrow.{Bor}
use Rattle.yasna_base.specs.declared.error.ASN1ErrorKind.{ASN1ErrorKind}
use Rattle.yasna_base.specs.declared.tag.Tag.{Tag}
use Rattle.yasna_base.specs.declared.tag.TagClass.{TagClass}
use Rattle.yasna_base.specs.declared.tag.TagClass.TheVariants.{Universal, Application, ContextSpecific, Private}
use Rattle.yasna_base.specs.declared.tag.PCBit.{PCBit}
use Rattle.yasna_base.specs.declared.tag.PCBit.TheVariants.{Primitive, Constructed}
use Rattle.yasna_base.specs.Digits.{base128}
use Rattle.yasna_base.specs.Error.{BlamesBytes}

-- the number that a class has in bits 8 and 7 of the first byte
abbrev pub class_number : TagClass → ℕ
class_number Universal = 0
class_number Application = 1
class_number ContextSpecific = 2
class_number Private = 3

-- the number that the primitive or constructed bit has, which is bit 6
abbrev pub bit_number : PCBit → ℕ
bit_number Primitive = 0
bit_number Constructed = 1

-- the first byte, with the number's place in its five low bits
abbrev pub leading_byte : Tag → PCBit → ℕ → ℕ
leading_byte t bit low = 64 * class_number t.tag_class + 32 * bit_number bit + low

-- a number below 31 is in the first byte, and any other after it in base 128
unfoldable pub identifier : Tag → PCBit → List ℕ
identifier t bit = if nat_lt t.tag_number 31 then (leading_byte t bit t.tag_number ∷ []) else (leading_byte t bit 31 ∷ base128 t.tag_number)

-- a tag of X.680's own types
abbrev pub universal : ℕ → Tag
universal number = record { tag_class = Universal; tag_number = number }

-- an implicit tag is in place of a type's own
abbrev pub tag_or : Option Tag → Tag → Tag
tag_or None own = own
tag_or (Some tag) own = tag

-- the tag that X.680 writes as its number in brackets, with no class
abbrev pub context : ℕ → Tag
context number = record { tag_class = ContextSpecific; tag_number = number }

-- the tag of the two zeros that end contents of indefinite length
abbrev pub end_tag : Tag
end_tag = universal 0

-- P holds of any tag but that of the end of contents, with a number of 64 bits
abbrev pub AnyTag : (Tag → Type 0) → Type 0
AnyTag P = (t : Tag) → (t ≡ end_tag → ⊥) → t.tag_number < 2 ^ 64 → P t

-- s begins with an identifier of the tag t
pub data BeginsWithTag (t : Tag) (s : List ℕ) : Type 0 where
  begins : (bit : PCBit) (r : List ℕ) → s ≡ identifier t bit ++ r → BeginsWithTag t s

-- s begins with an identifier, which isn't that of the end of contents
pub record StartsElement (s : List ℕ) : Type 0 where
  pub tag : Tag
  pub in_range : tag.tag_number < 2 ^ 64
  pub not_end : tag ≡ end_tag → ⊥
  pub begins : BeginsWithTag tag s

-- nothing is left, or the end of contents is first
pub data AtEnd (s : List ℕ) : Type 0 where
  nothing : s ≡ [] → AtEnd s
  end : BeginsWithTag end_tag s → AtEnd s

-- a number in base 128, not below 31, is at the start
abbrev pub NumberAt : List ℕ → Result (ℕ × Bor (List ℕ)) ASN1ErrorKind → Type 0
NumberAt s (Ok x) = (31 ≤ x.0) × (s ≡ base128 x.0 ++ x.1.now)
NumberAt s (Err k) = BlamesBytes k × ((n : ℕ) (r : List ℕ) → 31 ≤ n → n < 2 ^ 64 → s ≡ base128 n ++ r → ⊥)

-- an identifier is at the start
abbrev pub IdentifierAt : List ℕ → Result (Tag × PCBit × Bor (List ℕ)) ASN1ErrorKind → Type 0
IdentifierAt s (Ok x) = s ≡ identifier x.0 x.1 ++ x.2.now
IdentifierAt s (Err k) = BlamesBytes k × ((t : Tag) (bit : PCBit) (r : List ℕ) → t.tag_number < 2 ^ 64 → s ≡ identifier t bit ++ r → ⊥)
