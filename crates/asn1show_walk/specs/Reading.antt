-- The results of reading elements.
use Rattle.std.specs.Prelude.{◌≡◌, ◌⊎◌, ℕ, ◌+◌, ◌≤◌, Bool, true, false, List, [], ◌∷◌, ◌++◌, length, Option, Some, None, Result, Ok, Err}
use Rattle.yasna_base.specs.Bits.{bits_tag}
use Rattle.yasna_base.specs.Grammar.{max_depth}
use Rattle.yasna_base.specs.Header.{ContentsEnd, definite_end, indefinite_end, OpensAt}
use Rattle.yasna_base.specs.Identifier.{end_tag}
use Rattle.yasna_base.specs.Octets.{octets_tag}
use Rattle.yasna_base.specs.Raw.{RawValue, IsRaw, IsJoining}
use Rattle.yasna_base.specs.declared.error.ASN1ErrorKind.{ASN1ErrorKind}
use Rattle.yasna_base.specs.declared.error.ASN1ErrorKind.TheVariants.{Eof}
use Rattle.yasna_base.specs.declared.mode.BERMode.{BERMode}
use Rattle.yasna_base.specs.declared.mode.BERMode.TheVariants.{Ber}
use Rattle.yasna_base.specs.declared.tag.PCBit.TheVariants.{Constructed}
use Rattle.yasna_bytes.specs.Prefix.{Takes, HasPrefix}
use Rattle.yasna_bytes.specs.Opening.{end_found}
use Rattle.yasna_bytes.specs.Walk.{following}
use Rattle.asn1show_walk.specs.Errors.{IsMalformed}
use Rattle.asn1show_walk.specs.Listing.{Line, VisitsLines, Below, ListsBytes, ListsOne}
use Rattle.asn1show_walk.specs.WellFormed.{IsWellFormed, AreElements, ClosesWell}
use Rattle.asn1show_walk.specs.Stops.{HeaderMissing, StopsOne, StopsIn, StopsOnly}
use Rattle.asn1show_walk.specs.declared.error.WalkError.{WalkError}
use Rattle.asn1show_walk.specs.declared.listing.item.Item.{Item}
use Rattle.asn1show_walk.specs.declared.listing.item.OpenedItem.{OpenedItem}
use Rattle.asn1show_walk.specs.declared.listing.place.Place.{Place}
use Rattle.asn1show_walk.specs.declared.listing.place.Context.{Context}

-- the line of an element whose header was read
abbrev pub line_of : Item → Line
line_of i = record { offset = i.offset; header = i.header; size = i.size; depth = i.depth; in_string = i.in_string; tag = i.tag; bit = i.bit; contents = i.contents.now }

-- the length of contents that end so, where it is definite
abbrev pub counted_length : ContentsEnd → ℕ → Option ℕ
counted_length (definite_end r) k = Some k
counted_length indefinite_end k = None

-- the header of an element is at a place
pub record OpensItem (context : Context) (p : Place) (o : OpenedItem) : Type 0 where
  pub level : 1 ≤ context.levels
  pub not_end : o.item.tag ≡ end_tag → ⊥
  pub opens : OpensAt context.mode o.item.tag o.item.bit p.left.now o.item.contents.now (end_found o.end)
  pub offset : o.item.offset ≡ p.offset
  pub header : o.item.header + (length o.item.contents.now + length (following (end_found o.end))) ≡ length p.left.now
  pub counts : o.item.size ≡ counted_length (end_found o.end) (length o.item.contents.now)
  pub depth : o.item.depth + context.levels ≡ max_depth
  pub in_string : o.item.in_string ≡ context.in_string

-- no header of an element is at a place, with the offset and the kind of the error
pub record NoItem (context : Context) (p : Place) (offset : ℕ) (kind : ASN1ErrorKind) : Type 0 where
  pub here : offset ≡ p.offset
  pub header_missing : HeaderMissing context.mode context.levels kind p.left.now

-- the result of reading a header at a place
abbrev pub ItemAt : Context → Place → Result OpenedItem WalkError → Type 0
ItemAt context p (Ok o) = OpensItem context p o
ItemAt context p (Err f) = IsMalformed (NoItem context p) f

-- the elements in a string, if it has any, begin at p
pub data IsInString (i : Item) (p : Place) : Type 0 where
  in_octets : i.tag ≡ octets_tag → p.left.now ≡ i.contents.now → p.offset ≡ i.offset + i.header → IsInString i p
  in_bits : i.tag ≡ bits_tag → i.contents.now ≡ 0 ∷ p.left.now → p.offset ≡ i.offset + i.header + 1 → IsInString i p

-- q is the place after the bytes b
pub record IsFurther (p : Place) (b : List ℕ) (q : Place) : Type 0 where
  pub joined : p.left.now ≡ b ++ q.left.now
  pub offset : q.offset ≡ p.offset + length b

-- contents end at p, and q is after their end
abbrev pub EndsAt : Bool → Place → Place → Type 0
EndsAt true p q = (p.left.now ≡ []) × (q.left.now ≡ []) × (q.offset ≡ p.offset)
EndsAt false p q = IsFurther p (0 ∷ 0 ∷ []) q

-- the elements from p to the end of contents were visited, and q is after that end
pub record ContentsVisited (context : Context) (p : Place) (is_counted : Bool) (q : Place) (old new : List Line → Type 0) : Type 0 where
  pub bytes : List ℕ
  pub lines : List Line
  pub end : Place
  pub further : IsFurther p bytes end
  pub ends : EndsAt is_counted end q
  pub visits : VisitsLines old new lines
  pub lists : ListsBytes context.levels context.mode context.in_string p.offset bytes lines

-- the element at p was visited, and q is after it
pub record ElementVisited (context : Context) (p q : Place) (old new : List Line → Type 0) : Type 0 where
  pub bytes : List ℕ
  pub lines : List Line
  pub some : 1 ≤ length bytes
  pub further : IsFurther p bytes q
  pub visits : VisitsLines old new lines
  pub lists : ListsOne context.levels context.mode context.in_string p.offset bytes lines

-- the elements in the contents of an element were visited
pub record BelowVisited (context : Context) (i : Item) (old new : List Line → Type 0) : Type 0 where
  pub lines : List Line
  pub visits : VisitsLines old new lines
  pub levels : ℕ
  pub deeper : levels + 1 ≡ context.levels
  pub below : Below (λ v. ListsBytes levels context.mode v) context.in_string i.tag i.bit (i.offset + i.header) i.contents.now lines

-- a well-formed element is at p, and q is after it
abbrev pub ElementBefore : Context → Place → Place → Type 0
ElementBefore context p q = (v : RawValue) × Takes (IsWellFormed context.levels context.mode) p.left.now v q.left.now

-- no well-formed element is at p, and the error is at the offset
pub record NoElement (context : Context) (p : Place) (offset : ℕ) (kind : ASN1ErrorKind) : Type 0 where
  pub none : HasPrefix (IsWellFormed context.levels context.mode) p.left.now → ⊥
  pub at : ℕ
  pub place : offset ≡ p.offset + at
  pub stops : StopsOne context.levels context.mode kind p.left.now at

-- the elements from a place up to the end of contents aren't well formed, and the error is at the offset
pub record NotClosed (context : Context) (p : Place) (is_counted : Bool) (offset : ℕ) (kind : ASN1ErrorKind) : Type 0 where
  pub none : ClosesWell context.levels context.mode is_counted p.left.now → ⊥
  pub at : ℕ
  pub place : offset ≡ p.offset + at
  pub stops : StopsIn context.levels context.mode kind is_counted p.left.now at

-- an element is constructed, the elements in it aren't well formed, and the error is at the offset
pub record NoneBelow (context : Context) (i : Item) (offset : ℕ) (kind : ASN1ErrorKind) : Type 0 where
  pub bit : i.bit ≡ Constructed
  pub levels : ℕ
  pub deeper : levels + 1 ≡ context.levels
  pub none : IsJoining (IsWellFormed levels context.mode) i.contents.now → ⊥
  pub at : ℕ
  pub place : offset ≡ i.offset + i.header + at
  pub stops : StopsIn levels context.mode kind true i.contents.now at

-- an input isn't one or more well-formed elements within n levels, nor in DER and CER one or more raw ones: it is empty, or the error
-- is at the offset, and only there
pub record NoElements (n : ℕ) (m : BERMode) (s : List ℕ) (offset : ℕ) (kind : ASN1ErrorKind) : Type 0 where
  pub none : AreElements n m s → ⊥
  pub not_raw : (m ≡ Ber → ⊥) → IsJoining (IsRaw m n) s → 1 ≤ length s → ⊥
  pub stops : ((s ≡ []) × (offset ≡ 0) × (kind ≡ Eof)) ⊎ StopsOnly n m kind s offset
