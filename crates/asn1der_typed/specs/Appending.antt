-- What is appended to an output for an element of the input.
use Rattle.std.specs.Prelude.{◌≡◌, ◌≤◌, ◌<◌, ◌+◌, ◌-◌, ◌/◌, ◌%◌, ◌^◌, Bool, List, [], ◌∷◌, ℕ, ◌++◌, length, take, drop, get_or, Option, Some, None}
use Rattle.std.specs.List.{concat}
use Rattle.asn1_contents.specs.Contents.{HasContents}
use Rattle.asn1_contents.specs.ContentsType.{type_with}
use Rattle.asn1der_convert.specs.Parts.{ArePartsOf}
use Rattle.asn1der_convert.specs.Rows.{AreElements}
use Rattle.asn1der_convert.specs.SetOrder.{sorted_by}
use Rattle.asn1der_convert.specs.Tags.{IsStringTag, IsConstructedTag, IsOtherConstructed}
use Rattle.asn1der_convert.specs.Tree.{IsAround}
use Rattle.asn1der_convert.specs.declared.sorting.SortKey.{SortKey}
use Rattle.asn1der_convert.specs.declared.sorting.SortKey.TheVariants.{ByTags, ByOctets}
use Rattle.asn1show_schema.specs.Values.{universal_number, HasNumber}
use Rattle.asn1show_schema.specs.declared.schema.Contents.{Contents}
use Rattle.asn1show_schema.specs.declared.schema.Contents.TheVariants.{Any, One, InOrder, InAnyOrder, SequenceOf, SetOf, Value, Selected}
use Rattle.asn1show_schema.specs.declared.schema.Number.{Number}
use Rattle.asn1show_schema.specs.declared.schema.ValueType.{ValueType}
use Rattle.asn1show_schema.specs.declared.schema.ValueType.TheVariants.{NamedBits}
use Rattle.yasna_base.specs.Bits.{BitString, AreTheBits, IsBits, bits_tag, bits_contents}
use Rattle.yasna_base.specs.Boolean.{IsBoolean, boolean_byte, boolean_tag}
use Rattle.yasna_base.specs.Canonical.{canonical_element}
use Rattle.yasna_base.specs.Element.{Primitively}
use Rattle.yasna_base.specs.Grammar.{max_depth}
use Rattle.yasna_base.specs.Identifier.{BeginsWithTag, universal}
use Rattle.yasna_base.specs.Length.{shortest_length}
use Rattle.yasna_base.specs.Set.{SetPart, parts_bytes}
use Rattle.yasna_base.specs.Text.{IsStringOf}
use Rattle.yasna_base.specs.declared.mode.BERMode.TheVariants.{Ber, Der}
use Rattle.yasna_base.specs.declared.tag.PCBit.{PCBit}
use Rattle.yasna_base.specs.declared.tag.PCBit.TheVariants.{Primitive, Constructed}
use Rattle.yasna_base.specs.declared.tag.Tag.{Tag}
use Rattle.yasna_bytes.specs.Prefix.{Takes}

-- bytes were appended to s
pub record Extends (s s' : List ℕ) : Type 0 where
  pub added : List ℕ
  pub joined : s' ≡ s ++ added

-- the bytes of s from the place k on were replaced
abbrev pub ExtendsFrom : ℕ → List ℕ → List ℕ → Type 0
ExtendsFrom k s s' = Extends (take k s) s'

-- the UNIVERSAL tag of a type of values
abbrev pub universal_tag : ValueType → Tag
universal_tag value = universal (universal_number value)

-- the bit at a place: the first bit of a byte is its highest, and after the last byte are zeros (X.690, 8.6.2)
abbrev pub bit_at : List ℕ → ℕ → ℕ
bit_at bytes i = get_or bytes (i / 8) 0 / 2 ^ (7 - i % 8) % 2

-- k of the first n bits are those up to the last one, after which there are zeros alone (X.690, 11.2.2)
pub record AreUpToLastOne (bytes : List ℕ) (n k : ℕ) : Type 0 where
  pub few : k ≤ n
  pub zeros : (i : ℕ) → k ≤ i → i < n → bit_at bytes i ≡ 0
  pub one : 1 ≤ k → bit_at bytes (k - 1) ≡ 1

-- DER has the first k of n bits of a type: all of them, or of named bits those up to the last one
abbrev pub HasDerCount : ValueType → List ℕ → ℕ → ℕ → Type 0
HasDerCount (NamedBits names) bytes n k = AreUpToLastOne bytes n k
HasDerCount value bytes n k = k ≡ n

-- the first k bits, in the fewest bytes
abbrev pub first_bits : List ℕ → ℕ → BitString
first_bits bytes k = record { bytes = take ((k + 7) / 8) bytes; count = k }

-- b represents a truth in BER, and c the same in DER (X.690, 8.2 and 11.1)
pub record IsBooleanOf (c b : List ℕ) : Type 0 where
  pub truth : Bool
  pub read : IsBoolean Ber truth b
  pub written : c ≡ boolean_byte truth ∷ []

-- b represents bits by R, and c are contents in DER of the same value of the type, with zeros in the unused bits (X.690, 8.6 and 11.2)
pub record AreBitsOf (value : ValueType) (R : BitString → List ℕ → Type 0) (c b : List ℕ) : Type 0 where
  pub bits : BitString
  pub read : R bits b
  pub count : ℕ
  pub in_der : HasDerCount value bits.bytes bits.count count
  pub written : c ≡ bits_contents (first_bits bits.bytes count)

-- b are primitive contents in BER of a value of the type, and c those of the same value in DER
pub data AreContentsOf (value : ValueType) (c b : List ℕ) : Type 0 where
  boolean : universal_tag value ≡ boolean_tag → IsBooleanOf c b → AreContentsOf value c b
  bits : universal_tag value ≡ bits_tag → AreBitsOf value (AreTheBits Ber) c b → AreContentsOf value c b
  other : (universal_tag value ≡ boolean_tag → ⊥) → (universal_tag value ≡ bits_tag → ⊥) → (IsConstructedTag (universal_tag value) → ⊥) →
      HasContents (type_with (universal_tag value)) Ber c b → AreContentsOf value c b

-- b is an element in BER with the tag t, and c are the primitive contents in DER of the same value of the type. The element is primitive, or a
-- string: its bits or octets may be those of its segments, in their order (X.690, 8.6, 8.7, 8.23 and 10.2)
pub data HasDerContents (value : ValueType) (t : Tag) (c b : List ℕ) : Type 0 where
  in_one : Primitively (λ m. AreContentsOf value) t Ber max_depth c b → HasDerContents value t c b
  bit_string : universal_tag value ≡ bits_tag → AreBitsOf value (IsBits t Ber max_depth) c b → HasDerContents value t c b
  octet_string : IsStringTag (universal_tag value) → IsStringOf (HasContents (type_with (universal_tag value))) t Ber max_depth c b →
      HasDerContents value t c b

-- b is a constructed element in BER with the tag t, and c are the elements in it in DER by their tags, in their order
pub record HasDerElements (t : Tag) (c b : List ℕ) : Type 0 where
  pub parts : List SetPart
  pub around : IsAround (λ d. ArePartsOf (max_depth - 1) Ber d parts) Ber t b
  pub written : c ≡ concat (parts_bytes parts)

-- an element that encodes c by B is at the start of s
abbrev pub StartsWith : (List ℕ → List ℕ → Type 0) → List ℕ → List ℕ → Type 0
StartsWith B s c = (r : List ℕ) × Takes B s c r

-- s begins with an element with the tag t of a value of the type, and c are its contents in DER. They are primitive, or elements, if the type's
-- encoding isn't always primitive
pub data IsOfType (value : ValueType) (t : Tag) (s c : List ℕ) : PCBit → Type 0 where
  whole : StartsWith (HasDerContents value t) s c → IsOfType value t s c Primitive
  around : IsOtherConstructed (universal_tag value) → StartsWith (HasDerElements t) s c → IsOfType value t s c Constructed

-- the identifier i, a length and contents that P holds of were appended to s
pub record AppendsUnder (P : List ℕ → Type 0) (i s s' : List ℕ) : Type 0 where
  pub contents : List ℕ
  pub own : P contents
  pub bytes : s' ≡ s ++ (i ++ (shortest_length (length contents) ++ contents))

-- an element in DER with the tag t was appended to s. b begins with an element in BER with this tag of the same value of the type
pub record AppendsElement (value : ValueType) (t : Tag) (b s s' : List ℕ) : Type 0 where
  pub bit : PCBit
  pub contents : List ℕ
  pub own : IsOfType value t b contents bit
  pub bytes : s' ≡ s ++ canonical_element Der t bit contents

-- as `AppendsElement`, with the tag that b begins with
pub record AppendsSameTag (value : ValueType) (b s s' : List ℕ) : Type 0 where
  pub tag : Tag
  pub begins : BeginsWithTag tag b
  pub element : AppendsElement value tag b s s'

-- an element in DER with this bit and these contents has the number: only a primitive one has one
abbrev pub HasDefault : ValueType → Number → PCBit → List ℕ → Type 0
HasDefault value n bit contents = (bit ≡ Primitive) × HasNumber value contents n

-- as `AppendsSameTag`, but nothing was appended if the element has the number that its part has if it is absent (X.690, 11.5)
pub data AppendsUnlessDefault (n : Number) (value : ValueType) (b s s' : List ℕ) : Type 0 where
  omitted : (full : List ℕ) (x : AppendsSameTag value b s full) → HasDefault value n x.element.bit x.element.contents → s' ≡ s →
      AppendsUnlessDefault n value b s s'
  written : (x : AppendsSameTag value b s s') → (HasDefault value n x.element.bit x.element.contents → ⊥) → AppendsUnlessDefault n value b s s'

-- as `AppendsSameTag`, or as `AppendsUnlessDefault`, if the part has a number if it is absent
abbrev pub AppendsValue : Option Number → ValueType → List ℕ → List ℕ → List ℕ → Type 0
AppendsValue None value b s s' = AppendsSameTag value b s s'
AppendsValue (Some n) value b s s' = AppendsUnlessDefault n value b s s'

-- the elements ps that s is from the place k on are sorted by the key in s'
abbrev pub SortsFrom : SortKey → ℕ → List ℕ → List ℕ → Type 0
SortsFrom key k s s' = (ps : List SetPart) → AreElements ps (drop k s) → AreElements (sorted_by key ps) (drop k s')

-- the elements from the place k on are put in the order that DER has for what they are in
abbrev pub PutsInOrderOf : Contents → ℕ → List ℕ → List ℕ → Type 0
PutsInOrderOf Any k s s' = s' ≡ s
PutsInOrderOf (One place) k s s' = s' ≡ s
PutsInOrderOf (InOrder parts) k s s' = s' ≡ s
PutsInOrderOf (InAnyOrder parts) k s s' = SortsFrom ByTags k s s'
PutsInOrderOf (SequenceOf place size) k s s' = s' ≡ s
PutsInOrderOf (SetOf place size) k s s' = SortsFrom ByOctets k s s'
PutsInOrderOf (Value value) k s s' = s' ≡ s
PutsInOrderOf (Selected place) k s s' = s' ≡ s
