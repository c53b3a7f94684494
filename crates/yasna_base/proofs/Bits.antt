-- The laws of BIT STRING.
use Rattle.std.proofs.Common.{◌≡◌, ℕ, List, ◌∷◌, length, ap, ap₂, ◌∙◌, sym, arith, [], ◌*◌, ◌-◌, ◌%◌, ◌^◌, ◌<◌, ◌≤◌, get_or, suc, refl, subst, length-append, ◌+◌, ◌/◌, ◌++◌}
use Rattle.yasna_base.specs.declared.mode.BERMode.{BERMode}
use Rattle.yasna_base.specs.declared.tag.Tag.{Tag}
use Rattle.yasna_base.specs.Bits.{BitString, AreTheBits, bits_segmentation, IsBits, IsPadded, AreFullBeforeLast, all_bits, CanBits, AreCanonicalBits}
use Rattle.yasna_base.specs.Bits.{unused_bits, padded, bits_contents, AreBitsJoined, cleared, IsFull, MayFollow}
use Rattle.yasna_base.specs.Coding.{IsCoding, Any}
use Rattle.yasna_base.specs.Identifier.{end_tag}
use Rattle.yasna_base.proofs.Segmented.{SegmentsOnce, segmented_coding, segmented_keeps}
use Rattle.yasna_base.proofs.Identifier.{not_end}
use Rattle.std.specs.List.{AllByRecursion, flat_map}
use Rattle.yasna_base.specs.declared.mode.BERMode.TheVariants.{Ber, Der, Cer}
use Rattle.yasna_base.specs.Canonical.{IsCanonicalMode}
use Rattle.yasna_base.specs.Digits.{IsBytes}
use Rattle.yasna_base.proofs.Digits.{bytes_append}
use Rattle.std.proofs.Math.Nat.{zero-mod, div-add-mod, mul-mod_right}

-- equal bytes and equal counts are equal strings
pub same_bits : (v w : BitString) → v.bytes ≡ w.bytes → v.count ≡ w.count → v ≡ w
same_bits v w e f = ap₂ (λ b c. record { bytes = b; count = c }) e f

one_whole : (m : BERMode) (v w : BitString) (c : List ℕ) → AreTheBits m v c → AreTheBits m w c → v ≡ w
one_whole m v w c x y =
    let e : x.unused ∷ v.bytes ≡ y.unused ∷ w.bytes = sym x.contents ∙ y.contents in
    let u : x.unused ≡ y.unused = cc in
    let b : v.bytes ≡ w.bytes = cc in
    same_bits v w b (omega (arith, ap length b, x.counted, y.counted))

-- bits are cut in one way
pub bits_once : SegmentsOnce bits_segmentation
bits_once = record {
  whole = one_whole;
  join = λ m vs v w x y. same_bits v w (x.bytes ∙ sym y.bytes) (x.count ∙ sym y.count);
  segment = not_end 3 (λ e. omega arith);
}

-- BIT STRING satisfies the laws of reading
pub bits_coding : (t : Tag) → (t ≡ end_tag → ⊥) → IsCoding (λ v w. v ≡ w) (IsBits t) (Any (IsBits t))
bits_coding t not_end = segmented_coding bits_once t not_end

joined_can : (vs : List BitString) → AreFullBeforeLast vs → AllByRecursion CanBits vs →
    IsBytes (flat_map (λ (w : BitString). w.bytes) vs) × (all_bits vs ≤ 8 * length (flat_map (λ (w : BitString). w.bytes) vs)) ×
    (8 * length (flat_map (λ (w : BitString). w.bytes) vs) < all_bits vs + 8)
joined_can [] full can = (tt, omega arith, omega arith)
joined_can (v ∷ []) full can =
    let h = can.0 in
    let n = length-append v.bytes [] in
    (bytes_append v.bytes [] h.in_bytes tt, omega (arith, h.enough, n), omega (arith, h.least, n))
joined_can (v ∷ w ∷ vs) full can =
    let i = joined_can (w ∷ vs) full.1 can.1 in
    let f = full.0 in
    let n = length-append v.bytes (flat_map (λ (w : BitString). w.bytes) (w ∷ vs)) in
    (bytes_append v.bytes (flat_map (λ (w : BitString). w.bytes) (w ∷ vs)) can.0.in_bytes i.0, omega (arith, i.1, f, n), omega (arith, i.2, f, n))

-- bits that are joined are in as many bytes as they need
pub join_can : (m : BERMode) (vs : List BitString) (v : BitString) → AllByRecursion CanBits vs → AreBitsJoined m vs v → CanBits v
join_can m vs v can x =
    let i = joined_can vs x.full can in
    let n = ap length x.bytes in
    record {
      in_bytes = subst IsBytes (sym x.bytes) i.0;
      enough = omega (arith, i.1, x.count, n);
      least = omega (arith, i.2, x.count, n);
      in_range = x.in_range;
    }

whole_can : (m : BERMode) (v : BitString) (c : List ℕ) → IsBytes c → AreTheBits m v c → CanBits v
whole_can m v c bytes x = record {
  in_bytes = (subst IsBytes x.contents bytes).1;
  enough = omega (arith, x.counted);
  least = omega (arith, x.counted, x.below);
  in_range = x.in_range;
}

-- bits are in as many bytes as they need
pub bits_can : (n : ℕ) (m : BERMode) (t : Tag) (v : BitString) (b : List ℕ) → IsBits t m n v b → CanBits v
bits_can = segmented_keeps bits_segmentation CanBits whole_can join_can

-- zeros in place of zeros
pub padded_same : (u : ℕ) (d : List ℕ) → get_or d (length d - 1) 0 % 2 ^ u ≡ 0 → padded u d ≡ d
padded_same u [] h = refl
padded_same u (x ∷ []) h =
    let i : x % 2 ^ u ≡ 0 = h in
    let e : x - x % 2 ^ u ≡ x = omega arith in
    ap (λ y. y ∷ []) e
padded_same u (x ∷ y ∷ ys) h =
    let last : length (x ∷ y ∷ ys) - 1 ≡ suc (length (y ∷ ys) - 1) = omega arith in
    ap (λ z. x ∷ z) (padded_same u (y ∷ ys) (subst (λ i. get_or (x ∷ y ∷ ys) i 0 % 2 ^ u ≡ 0) last h))

-- as many bytes as before
pub padded_length : (u : ℕ) (d : List ℕ) → length (padded u d) ≡ length d
padded_length u [] = refl
padded_length u (x ∷ []) = refl
padded_length u (x ∷ y ∷ ys) = ap (λ n. suc n) (padded_length u (y ∷ ys))

padded_bytes : (u : ℕ) (d : List ℕ) → IsBytes d → IsBytes (padded u d)
padded_bytes u [] h = tt
padded_bytes u (x ∷ []) h = (omega (arith, h.0), tt)
padded_bytes u (x ∷ y ∷ ys) h = (h.0, padded_bytes u (y ∷ ys) h.1)

zeros_padded : (m : BERMode) (u : ℕ) (d : List ℕ) → IsPadded Der u d → IsPadded m u d
zeros_padded Ber u d h = tt
zeros_padded Der u d h = h
zeros_padded Cer u d h = h

padded_zeros : (m : BERMode) (u : ℕ) (d : List ℕ) → IsCanonicalMode m → IsPadded m u d → IsPadded Der u d
padded_zeros Ber u d c h = absurd c
padded_zeros Der u d c h = h
padded_zeros Cer u d c h = h

-- the contents of a canonical string encode it
pub canonical_means : (m : BERMode) (v : BitString) → AreCanonicalBits v → AreTheBits m v (bits_contents v)
canonical_means m v h = record {
  unused = unused_bits v;
  contents = ap (λ d. unused_bits v ∷ d) (padded_same (unused_bits v) v.bytes h.zeros);
  below = let l = h.can.least in omega arith;
  none_of_none = λ e. let n = ap length e in omega (arith, n);
  counted = let l = h.can.enough in omega arith;
  padded = zeros_padded m (unused_bits v) v.bytes h.zeros;
  in_range = h.can.in_range;
}

-- the contents of a canonical string are bytes
pub contents_bytes : (v : BitString) → AreCanonicalBits v → IsBytes (bits_contents v)
contents_bytes v h = let l = h.can.least in (omega arith, padded_bytes (unused_bits v) v.bytes h.can.in_bytes)

-- contents that a canonical mode reads are those of a canonical string
pub canonical_one : (m : BERMode) (v : BitString) (c : List ℕ) → IsCanonicalMode m → IsBytes c → AreTheBits m v c → (c ≡ bits_contents v) × AreCanonicalBits v
canonical_one m v c h bytes x =
    let u : x.unused ≡ unused_bits v = let i = x.counted in omega arith in
    let zeros = subst (λ z. IsPadded Der z v.bytes) u (padded_zeros m x.unused v.bytes h x.padded) in (
      x.contents ∙ ap (λ z. z ∷ v.bytes) u ∙ ap (λ d. unused_bits v ∷ d) (sym (padded_same (unused_bits v) v.bytes zeros)),
      record { can = whole_can m v c bytes x; zeros = zeros },
    )

padded_ends : (u : ℕ) (d : List ℕ) → get_or (padded u d) (length (padded u d) - 1) 0 % 2 ^ u ≡ 0
padded_ends u [] = zero-mod (2 ^ u)
padded_ends u (x ∷ []) =
    let e : x - x % 2 ^ u ≡ 2 ^ u * (x / 2 ^ u) = let i = div-add-mod x (2 ^ u) in omega arith in
    ap (λ y. y % 2 ^ u) e ∙ mul-mod_right (2 ^ u) (x / 2 ^ u)
padded_ends u (x ∷ y ∷ ys) =
    let n = padded_length u (y ∷ ys) in
    let last : length (padded u (x ∷ y ∷ ys)) - 1 ≡ suc (length (padded u (y ∷ ys)) - 1) = omega arith in
    ap (λ i. get_or (padded u (x ∷ y ∷ ys)) i 0 % 2 ^ u) last ∙ padded_ends u (y ∷ ys)

-- as many bits are unused as before
cleared_unused : (v : BitString) → unused_bits (cleared v) ≡ unused_bits v
cleared_unused v = ap (λ n. 8 * n - v.count) (padded_length (unused_bits v) v.bytes)

-- with its unused bits cleared a string is canonical
pub cleared_canonical : (v : BitString) → CanBits v → AreCanonicalBits (cleared v)
cleared_canonical v h =
    let n = padded_length (unused_bits v) v.bytes in
    record {
      can = record {
        in_bytes = padded_bytes (unused_bits v) v.bytes h.in_bytes;
        enough = omega (arith, n, h.enough);
        least = omega (arith, n, h.least);
        in_range = h.in_range;
      };
      zeros = subst (λ u. IsPadded Der u (cleared v).bytes) (sym (cleared_unused v)) (padded_ends (unused_bits v) v.bytes);
    }

-- a string is written as it is with its unused bits cleared
pub cleared_contents : (v : BitString) → CanBits v → bits_contents v ≡ bits_contents (cleared v)
cleared_contents v h =
    let same = padded_same (unused_bits (cleared v)) (cleared v).bytes (cleared_canonical v h).zeros in
    ap (λ u. u ∷ (cleared v).bytes) (sym (cleared_unused v)) ∙ ap (λ d. unused_bits (cleared v) ∷ d) (sym same)

-- a string after full ones is the last
pub full_before : (vs : List BitString) (v : BitString) → AllByRecursion IsFull vs → AreFullBeforeLast (vs ++ (v ∷ []))
full_before [] v h = tt
full_before (w ∷ []) v h = (h.0, tt)
full_before (w ∷ x ∷ vs) v h = (h.0, full_before (x ∷ vs) v h.1)

-- before a string all are full
pub full_prefix : (vs ws : List BitString) (w : BitString) → AreFullBeforeLast (vs ++ (w ∷ ws)) → AllByRecursion IsFull vs
full_prefix [] ws w h = tt
full_prefix (v ∷ []) ws w h = (h.0, tt)
full_prefix (v ∷ x ∷ vs) ws w h = (h.0, full_prefix (x ∷ vs) ws w h.1)

pub all_bits_append : (vs ws : List BitString) → all_bits (vs ++ ws) ≡ all_bits vs + all_bits ws
all_bits_append [] ws = omega arith
all_bits_append (v ∷ vs) ws = omega (arith, all_bits_append vs ws)

all_prefix : (vs ws : List BitString) → AllByRecursion IsFull (vs ++ ws) → AllByRecursion IsFull vs
all_prefix [] ws h = tt
all_prefix (v ∷ vs) ws h = (h.0, all_prefix vs ws h.1)

-- where a segment may follow strings, it may follow the first of them
pub follow_prefix : (vs ws : List BitString) → MayFollow (vs ++ ws) → MayFollow vs
follow_prefix vs ws x = record { full = all_prefix vs ws x.full; in_range = omega (arith, all_bits_append vs ws, x.in_range) }

-- a segment of a string may follow the segments before it
pub joined_follow : (m : BERMode) (vs ws : List BitString) (w v : BitString) → AreBitsJoined m (vs ++ (w ∷ ws)) v → MayFollow vs
joined_follow m vs ws w v x = record {
  full = full_prefix vs ws w x.full;
  in_range = omega (arith, all_bits_append vs (w ∷ ws), x.count, x.in_range);
}
