-- BIT STRING (X.690, 8.6, 9.2 and 11.2).
use Rattle.std.specs.Prelude.{◌≡◌, ℕ, ◌+◌, ◌-◌, ◌*◌, ◌%◌, ◌^◌, ◌<◌, ◌≤◌, List, [], ◌∷◌, length, get_or}
use Rattle.std.specs.List.{flat_map, AllByRecursion}
use Rattle.yasna_base.specs.declared.mode.BERMode.{BERMode}
use Rattle.yasna_base.specs.declared.mode.BERMode.TheVariants.{Ber, Der, Cer}
use Rattle.yasna_base.specs.declared.tag.Tag.{Tag}
use Rattle.yasna_base.specs.Canonical.{HasEncoding}
use Rattle.yasna_base.specs.Coding.{IsCoding, Any}
use Rattle.yasna_base.specs.Segmented.{Segmentation, IsSegmented, IsDeepSegmented, segmented_encoding, segmented_depth}
use Rattle.yasna_base.specs.Digits.{IsBytes}
use Rattle.yasna_base.specs.Grammar.{TaggedGrammar, TaggedMembers, Encoding, Depth}
use Rattle.yasna_base.specs.Identifier.{universal, AnyTag}
use Rattle.yasna_base.specs.Segments.{segments}

-- the type's own tag
abbrev pub bits_tag : Tag
bits_tag = universal 3

-- the bytes that hold the bits, and how many bits there are
pub record BitString : Type 0 where
  pub bytes : List ℕ
  pub count : ℕ

-- the last u bits are zero, if the mode requires it of unused bits
abbrev pub IsPadded : BERMode → ℕ → List ℕ → Type 0
IsPadded Ber u d = Unit {0}
IsPadded Der u d = get_or d (length d - 1) 0 % 2 ^ u ≡ 0
IsPadded Cer u d = get_or d (length d - 1) 0 % 2 ^ u ≡ 0

-- the contents of a primitive element are the count of unused bits, and the bytes
pub record AreTheBits (m : BERMode) (v : BitString) (c : List ℕ) : Type 0 where
  pub unused : ℕ
  pub contents : c ≡ unused ∷ v.bytes
  pub below : unused ≤ 7
  pub none_of_none : v.bytes ≡ [] → unused ≡ 0
  pub counted : v.count + unused ≡ 8 * length v.bytes
  pub padded : IsPadded m unused v.bytes
  pub in_range : v.count < 2 ^ 64

-- no bit of the bytes is unused
abbrev pub IsFull : BitString → Type 0
IsFull v = v.count ≡ 8 * length v.bytes

-- only the last has unused bits
abbrev pub AreFullBeforeLast : List BitString → Type 0
AreFullBeforeLast [] = Unit {0}
AreFullBeforeLast (v ∷ []) = Unit {0}
AreFullBeforeLast (v ∷ w ∷ vs) = IsFull v × AreFullBeforeLast (w ∷ vs)

-- how many bits there are in all
abbrev pub all_bits : List BitString → ℕ
all_bits [] = 0
all_bits (v ∷ vs) = v.count + all_bits vs

-- the bits of the segments make the string, one after the other
pub record AreBitsJoined (m : BERMode) (vs : List BitString) (v : BitString) : Type 0 where
  pub full : AreFullBeforeLast vs
  pub bytes : v.bytes ≡ flat_map (λ (w : BitString). w.bytes) vs
  pub count : v.count ≡ all_bits vs
  pub in_range : v.count < 2 ^ 64

-- after unused bits no segment may follow, nor after more than 2 ^ 64 - 1 bits
pub record MayFollow (vs : List BitString) : Type 0 where
  pub full : AllByRecursion IsFull vs
  pub in_range : all_bits vs < 2 ^ 64

-- the bytes of bits in a segment that is full in CER (9.2): the count of unused bits is its thousandth octet
abbrev pub bits_full : ℕ
bits_full = 999

-- segments follow while no bit is unused
abbrev pub bits_segmentation : Segmentation BitString
bits_segmentation = record { whole = AreTheBits; join = AreBitsJoined; more = MayFollow; segment = bits_tag; bytes = λ v. v.bytes; full = bits_full }

-- within n levels, b is the bit string v with the tag t
abbrev pub IsBits : TaggedGrammar BitString
IsBits = IsSegmented bits_segmentation

-- reading a bit string with the tag t from s meets an element that no level is left for
abbrev pub IsDeepBits : TaggedMembers
IsDeepBits = IsDeepSegmented bits_segmentation

-- how many bits of the bytes are unused
abbrev pub unused_bits : BitString → ℕ
unused_bits v = 8 * length v.bytes - v.count

-- the bytes, with zeros in the last u bits
abbrev pub padded : ℕ → List ℕ → List ℕ
padded u [] = []
padded u (x ∷ []) = (x - x % 2 ^ u) ∷ []
padded u (x ∷ y ∷ ys) = x ∷ padded u (y ∷ ys)

-- how many bits are unused, and the bytes with zeros there
abbrev pub bits_contents : BitString → List ℕ
bits_contents v = unused_bits v ∷ padded (unused_bits v) v.bytes

-- k bits in these bytes, all but the last of which are full
abbrev pub bit_pieces : List (List ℕ) → ℕ → List BitString
bit_pieces [] k = []
bit_pieces (b ∷ []) k = record { bytes = b; count = k } ∷ []
bit_pieces (b ∷ c ∷ bs) k = record { bytes = b; count = 8 * length b } ∷ bit_pieces (c ∷ bs) (k - 8 * length b)

-- the bits in full segments and one of what is left, with zeros after them
abbrev pub bit_segments : BitString → List BitString
bit_segments v = bit_pieces (segments bits_full (padded (unused_bits v) v.bytes)) v.count

-- a string of bits in a canonical mode: whole, or in those segments
abbrev pub bits_encoding : Tag → Encoding BitString
bits_encoding t m v = segmented_encoding bits_segmentation bits_contents bit_segments t m v

-- its depth
abbrev pub bits_depth : Depth BitString
bits_depth m v = segmented_depth bits_segmentation m v

-- the bytes are as many as the bits need
pub record CanBits (v : BitString) : Type 0 where
  pub in_bytes : IsBytes v.bytes
  pub enough : v.count ≤ 8 * length v.bytes
  pub least : 8 * length v.bytes < v.count + 8
  pub in_range : v.count < 2 ^ 64

-- v is canonical: besides, its unused bits are zero
pub record AreCanonicalBits (v : BitString) : Type 0 where
  pub can : CanBits v
  pub zeros : IsPadded Der (unused_bits v) v.bytes

-- a bit string with its unused bits cleared
abbrev pub cleared : BitString → BitString
cleared v = record { bytes = padded (unused_bits v) v.bytes; count = v.count }

-- the laws of reading hold, and those of the encoding where a string is canonical. Whatever is read has as many bytes as the bits
-- need, and is written as the canonical string of the same bits
pub record BitLaws (t : Tag) : Type 0 where
  pub coding : IsCoding (λ v w. v ≡ w) (IsBits t) (Any (IsBits t))
  pub has : HasEncoding (IsBits t) (bits_encoding t) bits_depth (λ m. AreCanonicalBits)
  pub can : (m : BERMode) (n : ℕ) (v : BitString) (b : List ℕ) → IsBits t m n v b → CanBits v
  pub cleared : (m : BERMode) (v : BitString) → CanBits v → AreCanonicalBits (cleared v) × (bits_encoding t m v ≡ bits_encoding t m (cleared v))

-- BIT STRING satisfies these laws under any tag
abbrev pub BitsKeepLaws : Type 0
BitsKeepLaws = AnyTag (λ t. BitLaws t)
