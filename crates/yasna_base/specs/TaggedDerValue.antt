-- Raw elements as Rust values.
use Rattle.std.specs.Prelude.{◌≡◌, ℕ, List, ◌∷◌}
use Rattle.std.specs.Str.{IsUtf8}
use Rattle.yasna_base.specs.declared.models.tagged_der_value.TaggedDerValue.{TaggedDerValue}
use Rattle.yasna_base.specs.declared.tag.PCBit.{PCBit}
use Rattle.yasna_base.specs.declared.tag.PCBit.TheVariants.{Primitive}
use Rattle.yasna_base.specs.declared.tag.Tag.{Tag}
use Rattle.yasna_base.specs.Bits.{bits_tag}
use Rattle.yasna_base.specs.Octets.{octets_tag}
use Rattle.yasna_base.specs.Raw.{RawValue}
use Rattle.yasna_base.specs.Text.{utf8_tag, printable_tag, ia5_tag}

-- what such a value represents
abbrev pub raw_of : TaggedDerValue → RawValue
raw_of v = record { tag = v.tag; bit = v.pcbit; payload = v.value.items }

-- a raw element of its three parts
abbrev pub raw_value : Tag → PCBit → List ℕ → RawValue
raw_value t bit c = record { tag = t; bit = bit; payload = c }

-- a primitive element holds the octets b: those of an OCTET STRING, or of a BIT STRING with no unused bits
pub data HoldsOctets (v : RawValue) (b : List ℕ) : Type 0 where
  octet_string : v.tag ≡ octets_tag → v.bit ≡ Primitive → v.payload ≡ b → HoldsOctets v b
  bit_string : v.tag ≡ bits_tag → v.bit ≡ Primitive → v.payload ≡ 0 ∷ b → HoldsOctets v b

-- the tags of the texts that are UTF-8 as they are
pub data IsTextTag (t : Tag) : Type 0 where
  utf8_string : t ≡ utf8_tag → IsTextTag t
  printable_string : t ≡ printable_tag → IsTextTag t
  ia5_string : t ≡ ia5_tag → IsTextTag t

-- a primitive element holds a text
pub record HoldsText (v : RawValue) : Type 0 where
  pub tag : IsTextTag v.tag
  pub bit : v.bit ≡ Primitive
  pub utf8 : IsUtf8 v.payload
