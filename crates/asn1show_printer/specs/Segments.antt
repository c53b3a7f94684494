-- Segments of strings, by the lines of elements and of those before them (X.690, 8.6.4, 8.7.3 and 8.23).
use Rattle.std.specs.Prelude.{◌≡◌, ◌↔◌, ◌⊎◌, ◌-◌, ◌<◌, ◌≤◌, ◌==◌, ℕ, cond, List, [], ◌∷◌, get_or, Option, Some, None, IsTrue, MatchOption, ⊤}
use Rattle.std.specs.Option.{IsSome}
use Rattle.yasna_base.specs.Bits.{bits_tag}
use Rattle.yasna_base.specs.Octets.{octets_tag}
use Rattle.yasna_base.specs.declared.tag.PCBit.{PCBit}
use Rattle.yasna_base.specs.declared.tag.PCBit.TheVariants.{Primitive, Constructed}
use Rattle.yasna_base.specs.declared.tag.Tag.{Tag}
use Rattle.asn1show_walk.specs.Listing.{Line}
use Rattle.asn1show_printer.specs.Types.{type_with}
use Rattle.asn1show_printer.specs.declared.asn_type.AsnType.{AsnType}
use Rattle.asn1show_printer.specs.declared.asn_type.AsnType.TheVariants.{Boolean, Integer, Bits, Octets, Null, Oid, Relative, Real, Text, Whole, UtcTime, GeneralizedTime, Set, Parts, Unknown}
use Rattle.asn1show_printer.specs.declared.segments.SegmentKind.{SegmentKind}
use Rattle.asn1show_printer.specs.declared.segments.SegmentKind.TheVariants.{Absent, OfBits, OfOctets}
use Rattle.asn1show_printer.specs.declared.segments.Segments.{Segments}
use Rattle.asn1show_printer.specs.declared.segments.SegmentPlace.{SegmentPlace}

-- the tag of the segments of an element, if it has some
abbrev pub segment_tag : SegmentKind → Option Tag
segment_tag Absent = None
segment_tag OfBits = Some bits_tag
segment_tag OfOctets = Some octets_tag

-- the segments of a constructed element of a type: those of a BIT STRING are BIT STRINGs, and those of other strings OCTET STRINGs
abbrev pub segments_in : AsnType → SegmentKind
segments_in Boolean = Absent
segments_in Integer = Absent
segments_in Bits = OfBits
segments_in Octets = OfOctets
segments_in Null = Absent
segments_in Oid = Absent
segments_in Relative = Absent
segments_in Real = Absent
segments_in (Text characters) = OfOctets
segments_in (Whole characters) = Absent
segments_in UtcTime = OfOctets
segments_in GeneralizedTime = OfOctets
segments_in Set = Absent
segments_in Parts = Absent
segments_in Unknown = Absent

abbrev pub segments_of : PCBit → AsnType → SegmentKind
segments_of Primitive kind = Absent
segments_of Constructed kind = segments_in kind

-- the segments of the nearest element at a depth, among those before, the nearest first
abbrev pub segments_at : ℕ → List Line → SegmentKind
segments_at depth [] = Absent
segments_at depth (l ∷ before) = cond (depth == l.depth) (segments_of l.bit (type_with l.tag)) (segments_at depth before)

-- the segments of the element around one at a depth, which is the nearest before it that is one level less deep
abbrev pub segments_around : ℕ → List Line → SegmentKind
segments_around depth before = cond (depth == 0) Absent (segments_at (depth - 1) before)

abbrev pub wanted_tag : ℕ → List Line → Option Tag
wanted_tag depth before = segment_tag (segments_around depth before)

-- an element is a segment of a string
abbrev pub IsSegment : List Line → Line → Type 0
IsSegment before l = IsSome (wanted_tag l.depth before)

-- contents of a BIT STRING begin with a count of unused bits that isn't 0 (8.6.2)
pub record HasUnusedBits (t : Tag) (bit : PCBit) (c : List ℕ) : Type 0 where
  pub tag : t ≡ bits_tag
  pub primitive : bit ≡ Primitive
  pub some : 1 ≤ get_or c 0 0

-- the nearest element is a segment, and it has unused bits or follows one with them in the same string
abbrev pub FollowsUnusedBits : List Line → Type 0
FollowsUnusedBits [] = ⊥
FollowsUnusedBits (l ∷ before) = IsSegment before l × (HasUnusedBits l.tag l.bit l.contents ⊎ FollowsUnusedBits before)

-- a segment has the tag of one
abbrev pub HasWantedTag : List Line → Line → Type 0
HasWantedTag before l = MatchOption (wanted_tag l.depth before) ⊤ (λ t. l.tag ≡ t)

-- no segment follows unused bits: only the last one has them
abbrev pub MayBeNext : List Line → Line → Type 0
MayBeNext before l = IsSegment before l → FollowsUnusedBits before → ⊥

-- what is known of the elements before
pub record Tracks (s : Segments) (before : List Line) : Type 0 where
  pub around : (depth : ℕ) → depth < 256 → get_or s.around depth Absent ≡ segments_at depth before
  pub unused : IsTrue s.has_unused_bits ↔ FollowsUnusedBits before

-- what is pinned of an element as a segment
pub record PinsPlace (before : List Line) (l : Line) (place : SegmentPlace) : Type 0 where
  pub expected : IsTrue place.is_expected ↔ HasWantedTag before l
  pub follows : IsTrue place.may_follow ↔ MayBeNext before l

-- after an element, it and those before it are known
pub record Enters (old new : Segments) (l : Line) (place : SegmentPlace) (before : List Line) : Type 0 where
  pub pins : PinsPlace before l place
  pub tracks : Tracks new (l ∷ before)
