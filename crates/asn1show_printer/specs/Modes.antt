-- The rules of an encoding for the elements of a listing, as far as their tags tell their types (X.690).
use Rattle.std.specs.Prelude.{◌≡◌, ◌↔◌, ◌+◌, ◌≤◌, ℕ, Bool, true, false, not, ◌&&◌, List, [], ◌∷◌, length, Option, Some, None, IsTrue, ⊤}
use Rattle.std.specs.Option.{IsSome}
use Rattle.yasna_base.specs.Canonical.{IsCanonicalMode}
use Rattle.yasna_base.specs.Identifier.{identifier}
use Rattle.yasna_base.specs.Length.{shortest_length}
use Rattle.yasna_base.specs.Octets.{octets_full}
use Rattle.yasna_base.specs.declared.mode.BERMode.{BERMode}
use Rattle.yasna_base.specs.declared.mode.BERMode.TheVariants.{Ber, Der, Cer}
use Rattle.yasna_base.specs.declared.tag.PCBit.{PCBit}
use Rattle.yasna_base.specs.declared.tag.PCBit.TheVariants.{Primitive, Constructed}
use Rattle.yasna_base.specs.declared.tag.Tag.{Tag}
use Rattle.asn1show_walk.specs.Listing.{Line}
use Rattle.asn1show_printer.specs.Conformance.{excludes}
use Rattle.asn1show_printer.specs.Contents.{AreOfKind}
use Rattle.asn1show_printer.specs.Pieces.{RawPiece, ArePieces, AreOrdered, AreCerSegments, RepeatsTag}
use Rattle.asn1show_printer.specs.Segments.{HasWantedTag, MayBeNext}
use Rattle.asn1show_printer.specs.Types.{type_with, is_string, is_set}
use Rattle.asn1show_printer.specs.declared.asn_type.AsnType.{AsnType}
use Rattle.asn1show_printer.specs.declared.asn_type.AsnType.TheVariants.{Boolean, Integer, Bits, Octets, Null, Oid, Relative, Real, Text, Whole, UtcTime, GeneralizedTime, Set, Parts, Unknown}
use Rattle.asn1show_printer.specs.declared.diagnostic.Diagnostic.{Diagnostic}

-- contents of a primitive element are those of its type, and DER has constructed elements of definite length (8 to 11, 10.1)
abbrev pub HasBody : BERMode → PCBit → Option ℕ → AsnType → List ℕ → Type 0
HasBody m Primitive size kind c = AreOfKind kind m c
HasBody m Constructed size kind c = m ≡ Der → IsSome size

-- an element of a type may be constructed: of strings but in DER, and of simple types never (8 and 10.2)
abbrev pub MayHaveParts : AsnType → BERMode → Type 0
MayHaveParts Boolean m = ⊥
MayHaveParts Integer m = ⊥
MayHaveParts Bits m = m ≡ Der → ⊥
MayHaveParts Octets m = m ≡ Der → ⊥
MayHaveParts Null m = ⊥
MayHaveParts Oid m = ⊥
MayHaveParts Relative m = ⊥
MayHaveParts Real m = ⊥
MayHaveParts (Text characters) m = m ≡ Der → ⊥
MayHaveParts (Whole characters) m = ⊥
MayHaveParts UtcTime m = m ≡ Der → ⊥
MayHaveParts GeneralizedTime m = m ≡ Der → ⊥
MayHaveParts Set m = ⊤
MayHaveParts Parts m = ⊤
MayHaveParts Unknown m = ⊤

abbrev pub HasItsBit : PCBit → AsnType → BERMode → Type 0
HasItsBit Primitive kind m = ⊤
HasItsBit Constructed kind m = MayHaveParts kind m

-- the elements of a SET are in the order of a SET or of a SET OF (10.3 and 11.6). CER orders an untagged CHOICE by the least of its tags (9.3), so there
-- only a SET that repeats a tag, as a SET OF may, is known to be out of order
abbrev pub AreInOrder : BERMode → List ℕ → Type 0
AreInOrder Ber c = ⊤
AreInOrder Der c = (ps : List RawPiece) → ArePieces c ps → AreOrdered ps
AreInOrder Cer c = (ps : List RawPiece) → ArePieces c ps → RepeatsTag ps → AreOrdered ps

abbrev pub HasOrder : PCBit → AsnType → List ℕ → BERMode → Type 0
HasOrder Primitive kind c m = ⊤
HasOrder Constructed kind c m = IsTrue (is_set kind) → AreInOrder m c

-- a definite length is in the fewest octets: the header has no more than the tag and that length take (10.1)
abbrev pub IsShort : Tag → PCBit → ℕ → Option ℕ → Type 0
IsShort t bit header None = ⊤
IsShort t bit header (Some size) = header ≤ length (identifier t bit) + length (shortest_length size)

abbrev pub HasShortLength : Tag → PCBit → ℕ → Option ℕ → BERMode → Type 0
HasShortLength t bit header size m = IsCanonicalMode m → IsShort t bit header size

-- in CER a constructed element has an indefinite length, and a string of more than 1000 octets is in segments of 1000 (9.1 and 9.2)
abbrev pub IsCutByCer : PCBit → Option ℕ → Bool → List ℕ → Type 0
IsCutByCer Primitive size string c = IsTrue string → length c ≤ octets_full
IsCutByCer Constructed (Some size) string c = ⊥
IsCutByCer Constructed None string c = (ps : List RawPiece) → ArePieces c ps → IsTrue string → AreCerSegments ps

abbrev pub IsCut : PCBit → Option ℕ → Bool → List ℕ → BERMode → Type 0
IsCut bit size string c m = m ≡ Cer → IsCutByCer bit size string c

-- an element keeps the rules of a mode, by itself and after those before it
pub record Keeps (m : BERMode) (before : List Line) (l : Line) : Type 0 where
  pub body : HasBody m l.bit l.size (type_with l.tag) l.contents
  pub bit : HasItsBit l.bit (type_with l.tag) m
  pub order : HasOrder l.bit (type_with l.tag) l.contents m
  pub short : HasShortLength l.tag l.bit l.header l.size m
  pub segment : HasWantedTag before l
  pub next : MayBeNext before l
  pub cut : IsCut l.bit l.size (is_string (type_with l.tag)) l.contents m

-- what is in a string doesn't bear on the rules of the whole
abbrev pub CountsFor : BERMode → List Line → Line → Type 0
CountsFor m before l = l.in_string ≡ false → Keeps m before l

-- each element keeps the rules of a mode; the last one is first in the list
abbrev pub KeepsEach : BERMode → List Line → Type 0
KeepsEach m [] = ⊤
KeepsEach m (l ∷ before) = CountsFor m before l × KeepsEach m before

-- whether an element with a diagnostic, if it has one, may be in a mode
abbrev pub spares : Option Diagnostic → BERMode → Bool
spares None m = true
spares (Some d) m = not (excludes d m)

abbrev pub spare_each : List (Option Diagnostic) → BERMode → Bool
spare_each [] m = true
spare_each (d ∷ ds) m = spares d m && spare_each ds m

-- a diagnostic excludes exactly the modes whose rule an element doesn't keep
abbrev pub Pins : (BERMode → Type 0) → Option Diagnostic → Type 0
Pins P said = (m : BERMode) → IsTrue (spares said m) ↔ P m
