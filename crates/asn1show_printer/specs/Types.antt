-- The types of X.680 by their tags (X.680, 8.6).
use Rattle.std.specs.Prelude.{ℕ, Bool, true, false, List, [], ◌∷◌, get_or, Option, Some, None}
use Rattle.yasna_base.specs.declared.tag.Tag.{Tag}
use Rattle.yasna_base.specs.declared.tag.TagClass.{TagClass}
use Rattle.yasna_base.specs.declared.tag.TagClass.TheVariants.{Universal, Application, ContextSpecific, Private}
use Rattle.asn1show_printer.specs.declared.asn_type.Characters.{Characters}
use Rattle.asn1show_printer.specs.declared.asn_type.Characters.TheVariants.{Utf8, Numeric, Printable, Ia5, Visible, Bmp, Universal as Quads, Other}
use Rattle.asn1show_printer.specs.declared.asn_type.AsnType.{AsnType}
use Rattle.asn1show_printer.specs.declared.diagnostic.Diagnostic.{Diagnostic}
use Rattle.asn1show_printer.specs.declared.diagnostic.Diagnostic.TheVariants.{HasParts, Segments}
use Rattle.asn1show_printer.specs.declared.asn_type.AsnType.TheVariants.{Boolean, Integer, Bits, Octets, Null, Oid, Relative, Real, Text, Whole, UtcTime, GeneralizedTime, Set, Parts, Unknown}

-- the types with the universal numbers 0 to 36, ten in a row; 0 is the end of contents, and 15 is reserved
abbrev pub from_0 : List AsnType → List AsnType
from_0 more = Unknown ∷ Boolean ∷ Integer ∷ Bits ∷ Octets ∷ Null ∷ Oid ∷ Text Other ∷ Parts ∷ Real ∷ more

abbrev pub from_10 : List AsnType → List AsnType
from_10 more = Integer ∷ Parts ∷ Text Utf8 ∷ Relative ∷ Whole Visible ∷ Unknown ∷ Parts ∷ Set ∷ Text Numeric ∷ Text Printable ∷ more

abbrev pub from_20 : List AsnType → List AsnType
from_20 more = Text Other ∷ Text Other ∷ Text Ia5 ∷ UtcTime ∷ GeneralizedTime ∷ Text Other ∷ Text Visible ∷ Text Other ∷ Text Quads ∷ Parts ∷ more

abbrev pub from_30 : List AsnType → List AsnType
from_30 more = Text Bmp ∷ Whole Visible ∷ Whole Visible ∷ Whole Visible ∷ Whole Visible ∷ Whole Utf8 ∷ Whole Utf8 ∷ more

abbrev pub universal_types : List AsnType
universal_types = from_0 (from_10 (from_20 (from_30 [])))

-- the type with a number in a class: X.680's own are universal
abbrev pub type_in : TagClass → ℕ → AsnType
type_in Universal number = get_or universal_types number Unknown
type_in Application number = Unknown
type_in ContextSpecific number = Unknown
type_in Private number = Unknown

-- the type with a tag
abbrev pub type_with : Tag → AsnType
type_with tag = type_in tag.tag_class tag.tag_number

-- the diagnostic of a constructed element of a type: some are always primitive, a string is in segments, which DER doesn't accept, and
-- the others are constructed (X.690, 8 and 10.2)
abbrev pub diagnostic_if_constructed : AsnType → Option Diagnostic
diagnostic_if_constructed Boolean = Some HasParts
diagnostic_if_constructed Integer = Some HasParts
diagnostic_if_constructed Bits = Some Segments
diagnostic_if_constructed Octets = Some Segments
diagnostic_if_constructed Null = Some HasParts
diagnostic_if_constructed Oid = Some HasParts
diagnostic_if_constructed Relative = Some HasParts
diagnostic_if_constructed Real = Some HasParts
diagnostic_if_constructed (Text characters) = Some Segments
diagnostic_if_constructed (Whole characters) = Some HasParts
diagnostic_if_constructed UtcTime = Some Segments
diagnostic_if_constructed GeneralizedTime = Some Segments
diagnostic_if_constructed Set = None
diagnostic_if_constructed Parts = None
diagnostic_if_constructed Unknown = None

-- whether characters are in UTF-8 or ASCII
abbrev pub are_utf8 : Characters → Bool
are_utf8 Bmp = false
are_utf8 Quads = false
are_utf8 _ = true

-- whether the octets of a type are characters in UTF-8 or ASCII
abbrev pub is_utf8 : AsnType → Bool
is_utf8 (Text characters) = are_utf8 characters
is_utf8 (Whole characters) = are_utf8 characters
is_utf8 _ = false

-- whether a type is SET, or SET OF
abbrev pub is_set : AsnType → Bool
is_set Set = true
is_set other = false

-- whether a type isn't known
abbrev pub is_unknown : AsnType → Bool
is_unknown Unknown = true
is_unknown other = false

-- whether a type may be cut into segments
abbrev pub is_segmented : Option Diagnostic → Bool
is_segmented None = false
is_segmented (Some Segments) = true
is_segmented (Some other) = false

abbrev pub is_string : AsnType → Bool
is_string t = is_segmented (diagnostic_if_constructed t)
