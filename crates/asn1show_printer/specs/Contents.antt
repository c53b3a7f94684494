-- The contents of primitive elements of a type (X.690, 8 and 11), and their diagnostics.
use Rattle.std.specs.Prelude.{◌≡◌, ◌⊎◌, ◌≤◌, ◌%◌, ◌&&◌, ℕ, Bool, cond, List, [], ◌∷◌, length, Option, Some, None, pos, IsUtf8}
use Rattle.std.specs.Char.{IsScalar}
use Rattle.std.specs.Int.Digits.{number_from_digits}
use Rattle.std.specs.List.{AllByRecursion, flat_map}
use Rattle.yasna_base.specs.declared.mode.BERMode.{BERMode}
use Rattle.yasna_base.specs.declared.mode.BERMode.TheVariants.{Ber, Der, Cer}
use Rattle.yasna_base.specs.Bits.{IsPadded}
use Rattle.yasna_base.specs.Boolean.{IsBoolean}
use Rattle.yasna_base.specs.Canonical.{IsCanonicalMode}
use Rattle.yasna_base.specs.Digits.{base128}
use Rattle.yasna_base.specs.Integer.{IsMinimal}
use Rattle.yasna_base.specs.Text.{InNumeric, InPrintable, InIa5, InVisible}
use Rattle.yasna_times.specs.GeneralizedTime.{IsGeneralText, SpellsGeneralizedTime}
use Rattle.yasna_times.specs.Models.{utc_of}
use Rattle.yasna_times.specs.Moment.{Moment}
use Rattle.yasna_times.specs.UtcTime.{SpellsUtcTime}
use Rattle.yasna_times.specs.declared.models.utc_time.UTCTime.{UTCTime}
use Rattle.asn1show_printer.specs.Conformance.{excludes}
use Rattle.asn1show_printer.specs.declared.asn_type.Characters.{Characters}
use Rattle.asn1show_printer.specs.declared.asn_type.Characters.TheVariants.{Utf8, Numeric, Printable, Ia5, Visible, Bmp, Universal, Other}
use Rattle.asn1show_printer.specs.declared.asn_type.AsnType.{AsnType}
use Rattle.asn1show_printer.specs.declared.asn_type.AsnType.TheVariants.{Boolean, Integer, Bits, Octets, Null, Oid, Relative, Real, Text, Whole, UtcTime, GeneralizedTime, Set, Parts, Unknown}
use Rattle.asn1show_printer.specs.declared.line.LineBuffer.{LineBuffer}
use Rattle.asn1show_printer.specs.declared.diagnostic.Diagnostic.{Diagnostic}

-- the contents of a bit string: the count of unused bits in the last octet, and the octets
pub record AreBits (m : BERMode) (c : List ℕ) : Type 0 where
  pub unused : ℕ
  pub octets : List ℕ
  pub contents : c ≡ unused ∷ octets
  pub below : unused ≤ 7
  pub none_of_none : octets ≡ [] → unused ≡ 0
  pub padded : IsPadded m unused octets

-- one or more numbers in base 128, as the components of object identifiers are
pub record AreSubidentifiers (c : List ℕ) : Type 0 where
  pub numbers : List ℕ
  pub spelled : c ≡ flat_map base128 numbers
  pub some : 1 ≤ length numbers

-- numbers of two octets each, and of four, the highest octet first; octets left over are dropped
abbrev pub pairs : List ℕ → List ℕ
pairs [] = []
pairs (x ∷ []) = []
pairs (x ∷ y ∷ more) = number_from_digits 256 (x ∷ y ∷ []) ∷ pairs more

abbrev pub quads : List ℕ → List ℕ
quads [] = []
quads (x ∷ []) = []
quads (x ∷ y ∷ []) = []
quads (x ∷ y ∷ z ∷ []) = []
quads (x ∷ y ∷ z ∷ w ∷ more) = number_from_digits 256 (x ∷ y ∷ z ∷ w ∷ []) ∷ quads more

-- c is characters of size octets each: numbers that are no surrogate and not beyond the last character
pub record AreWide (size : ℕ) (numbers : List ℕ → List ℕ) (c : List ℕ) : Type 0 where
  pub whole : length c % size ≡ 0
  pub characters : AllByRecursion IsScalar (numbers c)

-- the octets of a text of these characters; of other character sets any octets
abbrev pub AreCharacters : Characters → List ℕ → Type 0
AreCharacters Utf8 c = IsUtf8 c
AreCharacters Numeric c = AllByRecursion InNumeric c
AreCharacters Printable c = AllByRecursion InPrintable c
AreCharacters Ia5 c = AllByRecursion InIa5 c
AreCharacters Visible c = AllByRecursion InVisible c
AreCharacters Bmp c = AreWide 2 pairs c
AreCharacters Universal c = AreWide 4 quads c
AreCharacters Other c = Unit {0}

-- a time without a zone, which only BER has
abbrev pub IsLocalTime : BERMode → List ℕ → Type 0
IsLocalTime Ber c = (v : Moment) × IsGeneralText c (Some (pos 0)) v
IsLocalTime Der c = ⊥
IsLocalTime Cer c = ⊥

-- the contents of a primitive element of an ASN.1 type in a mode, but for the length from which CER writes a string in segments
-- (X.690, 9.2)
abbrev pub AreOfKind : AsnType → BERMode → List ℕ → Type 0
AreOfKind Boolean m c = (v : Bool) × IsBoolean m v c
AreOfKind Integer m c = IsMinimal c
AreOfKind Bits m c = AreBits m c
AreOfKind Octets m c = Unit {0}
AreOfKind Null m c = c ≡ []
AreOfKind Oid m c = AreSubidentifiers c
AreOfKind Relative m c = AreSubidentifiers c
AreOfKind Real m c = Unit {0}
AreOfKind (Text characters) m c = AreCharacters characters c
AreOfKind (Whole characters) m c = AreCharacters characters c
AreOfKind UtcTime m c = (t : UTCTime) × SpellsUtcTime m (utc_of t) c
AreOfKind GeneralizedTime m c = ((v : Moment) × SpellsGeneralizedTime m v c) ⊎ IsLocalTime m c
AreOfKind Set m c = ⊥
AreOfKind Parts m c = ⊥
AreOfKind Unknown m c = Unit {0}

-- whether an element with a diagnostic is in no mode, by what it says of BER
abbrev pub is_of_ber : Diagnostic → Bool
is_of_ber d = excludes d Ber

-- whether it is in neither DER nor CER
abbrev pub is_of_canonical : Diagnostic → Bool
is_of_canonical d = excludes d Der && excludes d Cer

-- contents conform to each mode
abbrev pub InAll : (BERMode → List ℕ → Type 0) → List ℕ → Type 0
InAll C c = (m : BERMode) → C m c

-- contents conform only to BER
pub record OnlyInBer (C : BERMode → List ℕ → Type 0) (c : List ℕ) : Type 0 where
  pub here : C Ber c
  pub not_there : (m : BERMode) → IsCanonicalMode m → C m c → ⊥

-- contents conform to no mode
abbrev pub InNone : (BERMode → List ℕ → Type 0) → List ℕ → Type 0
InNone C c = (m : BERMode) → C m c → ⊥

-- the modes that contents conform to, by their diagnostic or its absence
abbrev pub DiagnosesOf : AsnType → List ℕ → Option Diagnostic → Type 0
DiagnosesOf kind c None = InAll (AreOfKind kind) c
DiagnosesOf kind c (Some r) = cond (is_of_canonical r) (cond (is_of_ber r) (InNone (AreOfKind kind) c) (OnlyInBer (AreOfKind kind) c)) ⊥

-- whether an append to a line ran out of memory
abbrev pub line_is_out_of_memory : LineBuffer → Bool
line_is_out_of_memory line = line.out_of_memory
