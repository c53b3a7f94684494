-- The tags that determine a class of contents (X.680, 8.6).
use Rattle.std.specs.Prelude.{◌≡◌, ◌⊎◌, ◌≤◌}
use Rattle.yasna_base.specs.Bits.{bits_tag}
use Rattle.yasna_base.specs.Boolean.{boolean_tag}
use Rattle.yasna_base.specs.Identifier.{end_tag}
use Rattle.yasna_base.specs.declared.tag.Tag.{Tag}
use Rattle.yasna_base.specs.declared.tag.TagClass.TheVariants.{Universal}

-- the tag of a string of octets, which may be in segments: OCTET STRING, ObjectDescriptor, the restricted character strings
-- and the two times (X.690, 8.7, 8.23 and 8.25)
pub record IsStringTag (t : Tag) : Type 0 where
  pub own : t.tag_class ≡ Universal
  pub number : (t.tag_number ≡ 4) ⊎ (t.tag_number ≡ 7) ⊎ (t.tag_number ≡ 12) ⊎ ((18 ≤ t.tag_number) × (t.tag_number ≤ 28)) ⊎ (t.tag_number ≡ 30)

-- the tag of a type whose encoding is primitive: BOOLEAN, INTEGER, NULL, OBJECT IDENTIFIER, REAL, ENUMERATED, RELATIVE-OID, TIME, and
-- from DATE on those of dates, times of day and durations, OID-IRI and RELATIVE-OID-IRI (X.690, 8.2 to 8.5, 8.8 and 8.19 to 8.26)
pub record IsPrimitiveTag (t : Tag) : Type 0 where
  pub own : t.tag_class ≡ Universal
  pub number : (t.tag_number ≡ 1) ⊎ (t.tag_number ≡ 2) ⊎ (t.tag_number ≡ 5) ⊎ (t.tag_number ≡ 6) ⊎ (t.tag_number ≡ 9) ⊎ (t.tag_number ≡ 10)
      ⊎ (t.tag_number ≡ 13) ⊎ (t.tag_number ≡ 14) ⊎ ((31 ≤ t.tag_number) × (t.tag_number ≤ 36))

-- the tag of a type whose encoding is constructed: EXTERNAL, EMBEDDED PDV, SEQUENCE, SET and CHARACTER STRING (X.690, 8.9 to 8.12, 8.17
-- and 8.18)
pub record IsConstructedTag (t : Tag) : Type 0 where
  pub own : t.tag_class ≡ Universal
  pub number : (t.tag_number ≡ 8) ⊎ (t.tag_number ≡ 11) ⊎ (t.tag_number ≡ 16) ⊎ (t.tag_number ≡ 17) ⊎ (t.tag_number ≡ 29)

-- the tag of any other type but BOOLEAN and BIT STRING, or of an unknown type
pub record IsOtherTag (t : Tag) : Type 0 where
  pub not_end : t ≡ end_tag → ⊥
  pub not_boolean : t ≡ boolean_tag → ⊥
  pub not_bits : t ≡ bits_tag → ⊥
  pub not_string : IsStringTag t → ⊥

-- the tag of a primitive element of such a type
pub record IsOtherPrimitive (t : Tag) : Type 0 where
  pub other : IsOtherTag t
  pub not_constructed : IsConstructedTag t → ⊥

-- the tag of a constructed element of such a type
pub record IsOtherConstructed (t : Tag) : Type 0 where
  pub other : IsOtherTag t
  pub not_primitive : IsPrimitiveTag t → ⊥
