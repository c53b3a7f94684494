-- The types of contents by their tags (X.680, 8.6).
use Rattle.std.specs.Prelude.{ℕ, ◌==◌, if◌then◌else◌}
use Rattle.yasna_base.specs.declared.tag.Tag.{Tag}
use Rattle.yasna_base.specs.declared.tag.TagClass.{TagClass}
use Rattle.yasna_base.specs.declared.tag.TagClass.TheVariants.{Universal, Application, ContextSpecific, Private}
use Rattle.yasna_bytes.specs.declared.bytes.text.Class.TheVariants.{Utf8, Numeric, Printable, Ia5, Visible, Bmp}
use Rattle.asn1_contents.specs.declared.contents_type.ContentsType.{ContentsType}
use Rattle.asn1_contents.specs.declared.contents_type.ContentsType.TheVariants.{Number, Nothing, Subidentifiers, Text, UtcTime, GeneralizedTime, Octets}

-- the type with a universal number
abbrev pub universal_type : ℕ → ContentsType
universal_type n =
    if n == 2
    then Number
    else if n == 5
    then Nothing
    else if n == 6
    then Subidentifiers
    else if n == 10
    then Number
    else if n == 12
    then Text Utf8
    else if n == 13
    then Subidentifiers
    else if n == 18
    then Text Numeric
    else if n == 19
    then Text Printable
    else if n == 22
    then Text Ia5
    else if n == 23
    then UtcTime
    else if n == 24
    then GeneralizedTime
    else if n == 26
    then Text Visible
    else if n == 30
    then Text Bmp
    else Octets

-- the type with a number in a class: X.680's own are universal
abbrev pub type_in : TagClass → ℕ → ContentsType
type_in Universal number = universal_type number
type_in Application number = Octets
type_in ContextSpecific number = Octets
type_in Private number = Octets

-- the type of the contents of an element with a tag
unfoldable pub type_with : Tag → ContentsType
type_with tag = type_in tag.tag_class tag.tag_number
