-- The elements that contents begin with (X.690, 8.1), their order (10.3 and 11.6), and how CER cuts strings (9.2).
use Rattle.std.specs.Borrow.{Bor}
use Rattle.std.specs.Prelude.{◌≡◌, ◌↔◌, ◌≢◌, ◌≤◌, ◌⊎◌, ℕ, Bool, true, false, not, List, [], ◌∷◌, ◌++◌, length, map, Option, Some, None, IsTrue, MatchOption, ⊤}
use Rattle.std.specs.List.{AllPairs}
use Rattle.std.specs.Ordering.{is_lt}
use Rattle.yasna_base.specs.declared.mode.BERMode.TheVariants.{Ber}
use Rattle.yasna_base.specs.declared.tag.PCBit.{PCBit}
use Rattle.yasna_base.specs.declared.tag.PCBit.TheVariants.{Primitive, Constructed}
use Rattle.yasna_base.specs.declared.tag.Tag.{Tag}
use Rattle.yasna_base.specs.Grammar.{max_depth}
use Rattle.yasna_base.specs.Order.{octets_cmp, tag_cmp}
use Rattle.yasna_base.specs.Raw.{RawValue, IsRaw}
use Rattle.yasna_base.specs.Octets.{octets_full}
use Rattle.yasna_bytes.specs.Prefix.{HasPrefix}
use Rattle.yasna_bytes.specs.Walk.{element_of}
use Rattle.yasna_bytes.specs.declared.bytes.walk.RawElement.{RawElement}
use Rattle.asn1show_printer.specs.declared.diagnostic.Diagnostic.{Diagnostic}
use Rattle.asn1show_printer.specs.declared.diagnostic.Diagnostic.TheVariants.{Order, TagOrder, Definite, Uncut}
use Rattle.asn1show_printer.specs.declared.sets.SetOrder.{SetOrder}
use Rattle.asn1show_printer.specs.declared.sets.SetOrder.TheVariants.{Tags, Octets}

-- an element and its octets
pub record RawPiece : Type 0 where
  pub value : RawValue
  pub octets : List ℕ

abbrev pub piece_of : RawElement → RawPiece
piece_of x = record { value = element_of x; octets = x.bytes.now }

-- an element of BER is first in bytes, and others follow it
pub record Begins (s : List ℕ) (p : RawPiece) (r : List ℕ) : Type 0 where
  pub joined : s ≡ p.octets ++ r
  pub raw : IsRaw Ber max_depth p.value p.octets

-- no element of BER is first in bytes
abbrev pub BeginsNone : List ℕ → Type 0
BeginsNone s = HasPrefix (IsRaw Ber max_depth) s → ⊥

-- the first element in bytes and what is after it, or none
abbrev pub IsFirst : List ℕ → Option (RawElement × Bor (List ℕ)) → Type 0
IsFirst s None = BeginsNone s
IsFirst s (Some x) = Begins s (piece_of x.0) x.1.now

-- the elements that bytes begin with, as many as there are
pub data ArePieces : List ℕ → List RawPiece → Type 0 where
  no_more : {s : List ℕ} → BeginsNone s → ArePieces s []
  one_more : {s r : List ℕ} {p : RawPiece} {ps : List RawPiece} → Begins s p r → ArePieces r ps → ArePieces s (p ∷ ps)

-- in an order, an element may be next after another one: in that of a SET its tag comes later, and in that of a SET OF its octets don't come earlier
abbrev pub may_follow : SetOrder → RawPiece → RawPiece → Bool
may_follow Tags p q = is_lt (tag_cmp p.value.tag q.value.tag)
may_follow Octets p q = not (is_lt (octets_cmp q.octets p.octets))

-- each element may be next after the one before it
abbrev pub Ascend : SetOrder → List RawPiece → Type 0
Ascend o [] = Unit {0}
Ascend o (p ∷ []) = Unit {0}
Ascend o (p ∷ q ∷ ps) = (may_follow o p q ≡ true) × Ascend o (q ∷ ps)

-- elements are in the order that DER has for a SET, or for a SET OF
abbrev pub AreOrdered : List RawPiece → Type 0
AreOrdered ps = Ascend Tags ps ⊎ Ascend Octets ps

-- what is said of elements that are in neither order, of whether two have one tag
abbrev pub order_said : Bool → Diagnostic
order_said true = Order
order_said false = TagOrder

abbrev pub tag_of_piece : RawPiece → Tag
tag_of_piece p = p.value.tag

-- two of the elements have one tag, as no components of a SET have (X.680, 27.3)
abbrev pub RepeatsTag : List RawPiece → Type 0
RepeatsTag ps = AllPairs (λ t u. t ≢ u) (map tag_of_piece ps) → ⊥

-- what is said of elements in contents that are in neither order, by whether two of them have one tag
pub record SaysOfDisorder (c : List ℕ) (d : Diagnostic) : Type 0 where
  pub repeated : Bool
  pub said : d ≡ order_said repeated
  pub repeats : (ps : List RawPiece) → ArePieces c ps → IsTrue repeated ↔ RepeatsTag ps
  pub disorder : (ps : List RawPiece) → ArePieces c ps → AreOrdered ps → ⊥

-- what is said of the order of the elements in contents
abbrev pub SaysOfOrder : List ℕ → Option Diagnostic → Type 0
SaysOfOrder c None = (ps : List RawPiece) → ArePieces c ps → AreOrdered ps
SaysOfOrder c (Some d) = SaysOfDisorder c d

-- a segment of a string is primitive, and has as many octets as CER allows
pub record IsFullSegment (p : RawPiece) : Type 0 where
  pub bit : p.value.bit ≡ Primitive
  pub full : length p.value.payload ≡ octets_full

-- the last segment has some of them
pub record IsLastSegment (p : RawPiece) : Type 0 where
  pub bit : p.value.bit ≡ Primitive
  pub some : 1 ≤ length p.value.payload
  pub most : length p.value.payload ≤ octets_full

-- all segments but the last are full
abbrev pub AreSegments : List RawPiece → Type 0
AreSegments [] = ⊥
AreSegments (p ∷ []) = IsLastSegment p
AreSegments (p ∷ q ∷ ps) = IsFullSegment p × AreSegments (q ∷ ps)

-- two segments or more, as CER cuts a string
pub record AreCerSegments (ps : List RawPiece) : Type 0 where
  pub several : 2 ≤ length ps
  pub segments : AreSegments ps

-- a diagnostic is said exactly if something isn't so
abbrev pub SaysUnless : Type 0 → Diagnostic → Option Diagnostic → Type 0
SaysUnless P d None = P
SaysUnless P d (Some e) = (e ≡ d) × (P → ⊥)

-- nothing is said but this
abbrev pub IsNoneOr : Diagnostic → Option Diagnostic → Type 0
IsNoneOr d said = MatchOption said ⊤ (λ e. e ≡ d)

-- what is said for CER of an element with this bit, size and contents, of whether its type is a string (9.1 and 9.2): a string of one piece isn't too
-- long, a constructed element has indefinite length, and the segments of a string are cut as CER cuts them
abbrev pub SaysOfCer : PCBit → Option ℕ → List ℕ → Bool → Option Diagnostic → Type 0
SaysOfCer Primitive size c is_string said = SaysUnless (IsTrue is_string → length c ≤ octets_full) Uncut said
SaysOfCer Constructed (Some k) c is_string said = said ≡ Some Definite
SaysOfCer Constructed None c is_string said =
    IsNoneOr Uncut said × ((ps : List RawPiece) → ArePieces c ps → SaysUnless (IsTrue is_string → AreCerSegments ps) Uncut said)
