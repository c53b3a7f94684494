-- Strings, in one primitive element or cut into segments (X.690, 8.6, 8.7, 8.23 and 9.2).
use Rattle.std.specs.Prelude.{◌≡◌, ℕ, zero, suc, ◌≤◌, List, ◌++◌, length, map, flat_map, if◌then◌else◌, nat_lt}
use Rattle.yasna_base.specs.declared.mode.BERMode.{BERMode}
use Rattle.yasna_base.specs.declared.mode.BERMode.TheVariants.{Ber, Der, Cer}
use Rattle.yasna_base.specs.declared.tag.PCBit.TheVariants.{Primitive, Constructed}
use Rattle.yasna_base.specs.declared.tag.Tag.{Tag}
use Rattle.yasna_base.specs.Canonical.{canonical_element}
use Rattle.yasna_base.specs.Element.{Element}
use Rattle.yasna_base.specs.Grammar.{TaggedGrammar, TaggedMembers, Encoding, Depth}
use Rattle.yasna_base.specs.Header.{ContentsEnd, OpensAt}
use Rattle.yasna_base.specs.Identifier.{BeginsWithTag}
use Rattle.yasna_base.specs.Pieces.{Pieces}
use Rattle.yasna_base.specs.Segments.{AreSegments}

-- whether a mode accepts strings in segments
abbrev pub MaySegment : BERMode → Type 0
MaySegment Ber = Unit {0}
MaySegment Der = ⊥
MaySegment Cer = Unit {0}

-- the mode of the segments: in CER they are primitive, of a length in the fewest bytes, as strings of DER are
abbrev pub segment_mode : BERMode → BERMode
segment_mode Ber = Ber
segment_mode Der = Der
segment_mode Cer = Der

-- whether a mode accepts n bytes in one primitive element, if k bytes fill a segment (X.690, 9.2)
abbrev pub StaysWhole : BERMode → ℕ → ℕ → Type 0
StaysWhole Ber k n = Unit {0}
StaysWhole Der k n = Unit {0}
StaysWhole Cer k n = n ≤ k

-- whether a mode accepts bytes that are cut so
abbrev pub FallsInto : BERMode → ℕ → List (List ℕ) → Type 0
FallsInto Ber k bs = Unit {0}
FallsInto Der k bs = Unit {0}
FallsInto Cer k bs = AreSegments k bs × (2 ≤ length bs)

-- How a kind of string is cut. whole m v c: the contents c of a primitive element say v; join m vs v: the values vs of
-- segments make v; more vs: a further segment may follow these; segment: the tag of each segment; bytes v: those that are cut; full: how many
-- of them fill a segment of CER
pub record Segmentation (A : Type 0) : Type 1 where
  pub whole : BERMode → A → List ℕ → Type 0
  pub join : BERMode → List A → A → Type 0
  pub more : List A → Type 0
  pub segment : Tag
  pub bytes : A → List ℕ
  pub full : ℕ

-- b is a string with the tag t that says v: a primitive element, or a constructed one around segments that represent their values by R
pub data Segmented {A : Type 0} (k : Segmentation A) (R : A → List ℕ → Type 0) (m : BERMode) (t : Tag) (v : A) (b : List ℕ) : Type 0 where
  whole : (c : List ℕ) → Element m t Primitive c b → k.whole m v c → StaysWhole m k.full (length (k.bytes v)) → Segmented k R m t v b
  in_segments : MaySegment m → (c : List ℕ) (vs : List A) → Element m t Constructed c b → Pieces R vs c → k.join (segment_mode m) vs v →
      FallsInto m k.full (map k.bytes vs) → Segmented k R m t v b

-- within n levels b is a string with the tag t that encodes v, whose segments are such strings in turn
unfoldable pub IsSegmented : {A : Type 0} → Segmentation A → TaggedGrammar A
IsSegmented k t m zero v b = ⊥
IsSegmented k t m (suc n) v b = Segmented k (IsSegmented k k.segment (segment_mode m) n) m t v b

-- c are segments that a further one may follow, and after them is what D says
pub record PiecesBefore {A : Type 0} (R : A → List ℕ → Type 0) (More : List A → Type 0) (D : List ℕ → Type 0) (c : List ℕ) : Type 0 where
  pub values : List A
  pub prefix : List ℕ
  pub rest : List ℕ
  pub pieces : Pieces R values prefix
  pub more : More values
  pub joined : c ≡ prefix ++ rest
  pub deep : D rest

-- a string in segments is begun at the start of s, and what D says is where a further segment may
pub record DeepSegmented {A : Type 0} (k : Segmentation A) (R : A → List ℕ → Type 0) (D : List ℕ → Type 0) (m : BERMode) (t : Tag) (s : List ℕ) : Type 0 where
  pub taken : MaySegment m
  pub contents : List ℕ
  pub end : ContentsEnd
  pub opens : OpensAt m t Constructed s contents end
  pub inside : PiecesBefore R k.more D contents

-- reading a string with the tag t from the start of s meets an element that no level is left for
unfoldable pub IsDeepSegmented : {A : Type 0} → Segmentation A → TaggedMembers
IsDeepSegmented k t m zero s = BeginsWithTag t s
IsDeepSegmented k t m (suc n) s = DeepSegmented k (IsSegmented k k.segment (segment_mode m) n) (IsDeepSegmented k k.segment (segment_mode m) n) m t s

-- if reading a string would go too deep, there is none at the start
abbrev pub DeepIsNone : {A : Type 0} → Segmentation A → Type 0
DeepIsNone {A} k = (n : ℕ) (m : BERMode) (t : Tag) (s : List ℕ) → IsDeepSegmented k t m n s → (v : A) (b r : List ℕ) → IsSegmented k t m n v b → s ≡ b ++ r → ⊥

-- The encoding of a string in a canonical mode: one primitive element, in CER segments where more bytes hold it than fill a segment.
-- contents v: those of a primitive element; segments v: the segments that v is cut into
abbrev pub segmented_encoding : {A : Type 0} → Segmentation A → (A → List ℕ) → (A → List A) → Tag → Encoding A
segmented_encoding k contents segments t Cer v =
    if nat_lt k.full (length (k.bytes v))
    then canonical_element Cer t Constructed (flat_map (λ w. canonical_element Der k.segment Primitive (contents w)) (segments v))
    else canonical_element Cer t Primitive (contents v)
segmented_encoding k contents segments t m v = canonical_element m t Primitive (contents v)

-- segments are a level of their own
abbrev pub segmented_depth : {A : Type 0} → Segmentation A → Depth A
segmented_depth k Cer v = if nat_lt k.full (length (k.bytes v)) then 2 else 1
segmented_depth k m v = 1
