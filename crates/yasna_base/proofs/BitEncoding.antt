-- The laws of writing of BIT STRING, and how CER cuts one.
use Rattle.std.proofs.Common.{◌≡◌, ℕ, ◌+◌, ◌-◌, ◌*◌, ◌%◌, ◌^◌, ◌<◌, ◌≤◌, List, [], ◌∷◌, ◌++◌, length, get_or, map, refl, ap, ap₂, ◌∙◌, sym, arith, subst, length-append, append-nil}
use Rattle.std.proofs.Math.Nat.{mod-one}
use Rattle.std.proofs.lemmas.List.{get_or-append-add}
use Rattle.std.specs.List.{AllByRecursion, concat, flat_map}
use Rattle.yasna_base.specs.declared.mode.BERMode.{BERMode}
use Rattle.yasna_base.specs.declared.mode.BERMode.TheVariants.{Ber, Der, Cer}
use Rattle.yasna_base.specs.declared.tag.PCBit.TheVariants.{Primitive, Constructed}
use Rattle.std.specs.Prelude.{if◌then◌else◌, nat_lt}
use Rattle.yasna_base.specs.declared.tag.Tag.{Tag}
use Rattle.yasna_base.specs.Bits.{BitString, bits_segmentation, IsBits, AreFullBeforeLast, all_bits, AreBitsJoined, CanBits, AreCanonicalBits}
use Rattle.yasna_base.specs.Bits.{unused_bits, padded, bits_contents, bit_pieces, bit_segments, bits_encoding, bits_depth, BitsKeepLaws, cleared}
use Rattle.yasna_base.specs.Canonical.{canonical_element, HasEncoding}
use Rattle.yasna_base.specs.Digits.{IsBytes}
use Rattle.yasna_base.specs.Segments.{AreSegments, segments}
use Rattle.yasna_base.proofs.Bits.{bits_coding, bits_can, padded_same, padded_length, contents_bytes, canonical_means, canonical_one, cleared_canonical, cleared_contents, join_can}
use Rattle.yasna_base.proofs.SegmentedEncoding.{HasSegments, segmented_has}
use Rattle.yasna_base.proofs.Digits.{bytes_prefix, bytes_after}
use Rattle.yasna_base.proofs.Segments.{segments_long, segments_are, segments_two, segments_only, segments_over}

-- the last of two lists is that of the second
last_after : (a b : List ℕ) → 1 ≤ length b → get_or (a ++ b) (length (a ++ b) - 1) 0 ≡ get_or b (length b - 1) 0
last_after a b some =
    let n = length-append a b in
    let i : length (a ++ b) - 1 ≡ length a + (length b - 1) = omega arith in
    ap (λ j. get_or (a ++ b) j 0) i ∙ get_or-append-add a b (length b - 1) 0

-- the bytes of strings, one after the other
bytes_of_pieces : (vs : List BitString) → flat_map (λ (w : BitString). w.bytes) vs ≡ concat (map (λ (w : BitString). w.bytes) vs)
bytes_of_pieces [] = refl
bytes_of_pieces (v ∷ vs) = ap (λ z. v.bytes ++ z) (bytes_of_pieces vs)

-- k canonical bits in the segments bs
record HoldBits (n : ℕ) (bs : List (List ℕ)) (k : ℕ) : Type 0 where
  each : AreSegments n bs
  canonical : AreCanonicalBits (record { bytes = concat bs; count = k })

-- the segments that they make
record ArePiecesOf (bs : List (List ℕ)) (k : ℕ) : Type 0 where
  same : map (λ (w : BitString). w.bytes) (bit_pieces bs k) ≡ bs
  canonical : AllByRecursion AreCanonicalBits (bit_pieces bs k)
  full : AreFullBeforeLast (bit_pieces bs k)
  count : all_bits (bit_pieces bs k) ≡ k

-- whole bytes are canonical
full_canonical : (b : List ℕ) → IsBytes b → 8 * length b < 2 ^ 64 → AreCanonicalBits (record { bytes = b; count = 8 * length b })
full_canonical b bytes short =
    let u : 8 * length b - 8 * length b ≡ 0 = omega arith in
    record {
      can = record { in_bytes = bytes; enough = omega arith; least = omega arith; in_range = short };
      zeros = subst (λ u. get_or b (length b - 1) 0 % 2 ^ u ≡ 0) (sym u) (mod-one (get_or b (length b - 1) 0));
    }

-- after a full one the rest of the bits
rest_holds : (n : ℕ) (b c : List ℕ) (bs : List (List ℕ)) (k : ℕ) → HoldBits n (b ∷ c ∷ bs) k → 1 ≤ length (concat (c ∷ bs)) →
    HoldBits n (c ∷ bs) (k - 8 * length b) × (8 * length b ≤ k)
rest_holds n b c bs k x some =
    let l = length-append b (concat (c ∷ bs)) in
    let can = x.canonical.can in
    let least = can.least in
    let enough = can.enough in
    let range = can.in_range in
    let below : 8 * length b ≤ k = omega arith in
    let u : 8 * length (b ++ concat (c ∷ bs)) - k ≡ 8 * length (concat (c ∷ bs)) - (k - 8 * length b) = omega arith in (
      record {
        each = x.each.1;
        canonical = record {
          can = record {
            in_bytes = bytes_after b (concat (c ∷ bs)) can.in_bytes;
            enough = omega arith;
            least = omega arith;
            in_range = omega arith;
          };
          zeros = ap₂ (λ y z. y % 2 ^ z) (sym (last_after b (concat (c ∷ bs)) some)) (sym u) ∙ x.canonical.zeros;
        };
      },
      below,
    )

-- a full one before segments
full_after : (b : List ℕ) (bs : List (List ℕ)) (k : ℕ) → AreFullBeforeLast (bit_pieces bs k) →
    AreFullBeforeLast (record { bytes = b; count = 8 * length b } ∷ bit_pieces bs k)
full_after b [] k h = tt
full_after b (c ∷ []) k h = (refl, tt)
full_after b (c ∷ d ∷ bs) k h = (refl, h)

pieces_of : (n : ℕ) (bs : List (List ℕ)) (k : ℕ) → HoldBits n bs k → ArePiecesOf bs k
pieces_of n [] k x = absurd (x.each)
pieces_of n (b ∷ []) k x = record {
  same = refl;
  canonical = (subst (λ c. AreCanonicalBits (record { bytes = c; count = k })) (append-nil b) x.canonical, tt);
  full = tt;
  count = omega arith;
}
pieces_of n (b ∷ c ∷ bs) k x =
    let some = segments_long n (c ∷ bs) x.each.1 in
    let rest = rest_holds n b c bs k x some in
    let inner = pieces_of n (c ∷ bs) (k - 8 * length b) rest.0 in
    let can = x.canonical.can in
    let below = rest.1 in
    let range = can.in_range in
    let count = inner.count in
    record {
      same = ap (λ ds. b ∷ ds) inner.same;
      canonical = (full_canonical b (bytes_prefix b (concat (c ∷ bs)) can.in_bytes) (omega arith), inner.canonical);
      full = full_after b (c ∷ bs) (k - 8 * length b) inner.full;
      count = omega arith;
    }

-- segments all but the last of which are full are made of their bytes and of the count of all bits
pieces_made : (vs : List BitString) → AreFullBeforeLast vs → vs ≡ bit_pieces (map (λ (w : BitString). w.bytes) vs) (all_bits vs)
pieces_made [] h = refl
pieces_made (v ∷ []) h = let e : v.count ≡ v.count + 0 = omega arith in ap (λ k. record { bytes = v.bytes; count = k } ∷ []) e
pieces_made (v ∷ w ∷ vs) h =
    let e : v.count ≡ 8 * length v.bytes = h.0 in
    let rest : all_bits (w ∷ vs) ≡ all_bits (v ∷ w ∷ vs) - 8 * length v.bytes = omega arith in
    ap₂ (λ c us. record { bytes = v.bytes; count = c } ∷ us) e
    (pieces_made (w ∷ vs) h.1 ∙ ap (bit_pieces (map (λ (w : BitString). w.bytes) (w ∷ vs))) rest)

-- what canonical segments make is canonical
joined_zeros : (n : ℕ) (vs : List BitString) → AllByRecursion AreCanonicalBits vs → AreFullBeforeLast vs → AreSegments n (map (λ (w : BitString). w.bytes) vs) →
    let d = concat (map (λ (w : BitString). w.bytes) vs) in get_or d (length d - 1) 0 % 2 ^ (8 * length d - all_bits vs) ≡ 0
joined_zeros n [] can full h = absurd h
joined_zeros n (v ∷ []) can full h =
    let u : 8 * length v.bytes - v.count ≡ 8 * length v.bytes - (v.count + 0) = omega arith in
    subst (λ d. get_or d (length d - 1) 0 % 2 ^ (8 * length d - (v.count + 0)) ≡ 0) (sym (append-nil v.bytes))
    (subst (λ u. get_or v.bytes (length v.bytes - 1) 0 % 2 ^ u ≡ 0) u can.0.zeros)
joined_zeros n (v ∷ w ∷ vs) can full h =
    let d = concat (map (λ (w : BitString). w.bytes) (w ∷ vs)) in
    let l = length-append v.bytes d in
    let e : v.count ≡ 8 * length v.bytes = full.0 in
    let u : 8 * length (v.bytes ++ d) - (v.count + all_bits (w ∷ vs)) ≡ 8 * length d - all_bits (w ∷ vs) = omega arith in
    ap₂ (λ y z. y % 2 ^ z) (last_after v.bytes d (segments_long n (map (λ (w : BitString). w.bytes) (w ∷ vs)) h.1)) u
    ∙ joined_zeros n (w ∷ vs) can.1 full.1 h.1

all_can : (vs : List BitString) → AllByRecursion AreCanonicalBits vs → AllByRecursion CanBits vs
all_can [] h = tt
all_can (v ∷ vs) h = (h.0.can, all_can vs h.1)

-- a canonical string of more than 999 bytes in segments
module _ (v : BitString) (can : AreCanonicalBits v) (long : 999 < length v.bytes) where
  own : padded (unused_bits v) v.bytes ≡ v.bytes
  own = padded_same (unused_bits v) v.bytes can.zeros

  cut_up : AreSegments 999 (segments 999 v.bytes) × (concat (segments 999 v.bytes) ≡ v.bytes)
  cut_up = let x = segments_are 999 v.bytes (omega arith) (omega (arith, long)) in (x.each, x.joined)

  its_pieces : ArePiecesOf (segments 999 v.bytes) v.count
  its_pieces = pieces_of 999 (segments 999 v.bytes) v.count
      (record { each = cut_up.0; canonical = subst (λ b. AreCanonicalBits (record { bytes = b; count = v.count })) (sym cut_up.1) can })

  same_segments : bit_segments v ≡ bit_pieces (segments 999 v.bytes) v.count
  same_segments = ap (λ b. bit_pieces (segments 999 b) v.count) own

  long_cut : (AreSegments 999 (map (λ (w : BitString). w.bytes) (bit_segments v)) × (2 ≤ length (map (λ (w : BitString). w.bytes) (bit_segments v))))
      × AllByRecursion AreCanonicalBits (bit_segments v)
  long_cut =
      let e = ap (map (λ (w : BitString). w.bytes)) same_segments ∙ its_pieces.same in (
        (
          subst (AreSegments 999) (sym e) cut_up.0,
          subst (λ bs. 2 ≤ length bs) (sym e) (segments_two 999 v.bytes (omega arith) long),
        ),
        subst (AllByRecursion AreCanonicalBits) (sym same_segments) its_pieces.canonical,
      )

  long_join : (m : BERMode) → AreBitsJoined m (bit_segments v) v
  long_join m = subst (λ vs. AreBitsJoined m vs v) (sym same_segments) (record {
    full = its_pieces.full;
    bytes = sym (bytes_of_pieces (bit_pieces (segments 999 v.bytes) v.count) ∙ ap concat its_pieces.same ∙ cut_up.1);
    count = sym its_pieces.count;
    in_range = can.can.in_range;
  })

-- segments of canonical bits are those of what they make
bits_cut_once : (vs : List BitString) (v : BitString) → AllByRecursion AreCanonicalBits vs → AreBitsJoined Der vs v →
    AreSegments 999 (map (λ (w : BitString). w.bytes) vs) × (2 ≤ length (map (λ (w : BitString). w.bytes) vs)) →
    (vs ≡ bit_segments v) × AreCanonicalBits v × (999 < length v.bytes)
bits_cut_once vs v can j cut =
    let bytes : concat (map (λ (w : BitString). w.bytes) vs) ≡ v.bytes = sym (j.bytes ∙ bytes_of_pieces vs) in
    let zeros = joined_zeros 999 vs can j.full cut.0 in
    let canonical : AreCanonicalBits v = record {
      can = join_can Der vs v (all_can vs can) j;
      zeros = ap₂ (λ d k. get_or d (length d - 1) 0 % 2 ^ (8 * length d - k)) (sym bytes) j.count ∙ zeros;
    } in (
      pieces_made vs j.full
          ∙ ap₂ bit_pieces (segments_only 999 (map (λ (w : BitString). w.bytes) vs) v.bytes (omega arith) cut.0 bytes) (sym j.count)
          ∙ ap (λ b. bit_pieces (segments 999 b) v.count) (sym (padded_same (unused_bits v) v.bytes canonical.zeros)),
      canonical,
      subst (λ b. 999 < length b) bytes (segments_over 999 (map (λ (w : BitString). w.bytes) vs) cut.0 cut.1),
    )

-- bits are cut in one way by CER, into segments of 999 bytes
pub bits_in_segments : HasSegments bits_segmentation AreCanonicalBits bits_contents bit_segments
bits_in_segments = record {
  bytes = contents_bytes;
  means = canonical_means;
  one = canonical_one;
  cut = long_cut;
  join = λ m v can long. long_join v can long m;
  cut_once = bits_cut_once;
}

-- a canonical BIT STRING has its encoding
pub bits_has : (t : Tag) → t.tag_number < 2 ^ 64 → HasEncoding (IsBits t) (bits_encoding t) bits_depth (λ m. AreCanonicalBits)
bits_has t range = segmented_has bits_in_segments (omega arith) t range

-- with its unused bits cleared a string has the same encoding
same_encoding : (t : Tag) (m : BERMode) (v : BitString) → CanBits v → bits_encoding t m v ≡ bits_encoding t m (cleared v)
same_encoding t Ber v h = ap (canonical_element Ber t Primitive) (cleared_contents v h)
same_encoding t Der v h = ap (canonical_element Der t Primitive) (cleared_contents v h)
same_encoding t Cer v h =
    let contents = cleared_contents v h in
    let bytes : padded (unused_bits v) v.bytes ≡ padded (unused_bits (cleared v)) (cleared v).bytes = cc in
    let cut : List BitString → List ℕ =
    λ ws. canonical_element Cer t Constructed (flat_map (λ w. canonical_element Der bits_segmentation.segment Primitive (bits_contents w)) ws) in
    let all : List ℕ → List ℕ = λ c. canonical_element Cer t Primitive c in
    ap (λ j. if nat_lt 999 j then cut (bit_segments v) else all (bits_contents v)) (sym (padded_length (unused_bits v) v.bytes))
    ∙ ap₂ (λ ws c. if nat_lt 999 (length (cleared v).bytes) then cut ws else all c) (ap (λ b. bit_pieces (segments 999 b) v.count) bytes) contents

pub bits_keep : BitsKeepLaws
bits_keep t not_end range = record {
  coding = bits_coding t not_end;
  has = bits_has t range;
  can = λ m n v b. bits_can n m t v b;
  cleared = λ m v h. (cleared_canonical v h, same_encoding t m v h);
}
