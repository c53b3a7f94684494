-- The class of an element's contents, by its tag.
use Rattle.std.specs.Prelude.{◌≡◌}
use Rattle.yasna_base.specs.Bits.{bits_tag}
use Rattle.yasna_base.specs.Boolean.{boolean_tag}
use Rattle.yasna_base.specs.Identifier.{end_tag}
use Rattle.yasna_base.specs.declared.tag.Tag.{Tag}
use Rattle.asn1der_convert.specs.Tags.{IsStringTag, IsOtherTag}
use Rattle.asn1der_convert.specs.declared.contents_class.ContentsClass.{ContentsClass}
use Rattle.asn1der_convert.specs.declared.contents_class.ContentsClass.TheVariants.{EndOfContents, Boolean, Bits, Octets, Other}

-- the tags of each class of contents
abbrev pub IsOfClass : ContentsClass → Tag → Type 0
IsOfClass EndOfContents t = t ≡ end_tag
IsOfClass Boolean t = t ≡ boolean_tag
IsOfClass Bits t = t ≡ bits_tag
IsOfClass Octets t = IsStringTag t
IsOfClass Other t = IsOtherTag t
