-- Strings in segments: how a canonical mode writes them, and what one segment leaves of the rest.
use Rattle.std.proofs.Common.{◌≡◌, ℕ, zero, suc, inl, inr, ◌-◌, ◌*◌, ◌%◌, ◌/◌, ◌^◌, ◌<◌, ◌≤◌, List, [], ◌∷◌, ◌++◌, length, take, drop, flat_map, true}
use Rattle.std.proofs.Common.{refl, sym, ap, ap₂, ◌∙◌, arith, append_assoc, append-nil, length-take, length-drop}
use Rattle.std.proofs.Math.Nat.{div-add-mod, mul-mod_right}
use Rattle.std.proofs.lemmas.Bool.Decides.{nat_tests}
use Rattle.std.specs.Prelude.{Result}
use Rattle.std.proofs.lemmas.Bool.{cases_lt}
use Rattle.std.proofs.lemmas.Result.{MatchResult-weaker}
use Rattle.yasna_base.specs.declared.error.ASN1Error.{ASN1Error}
use Rattle.yasna_base.specs.declared.mode.BERMode.{BERMode}
use Rattle.yasna_base.specs.declared.mode.BERMode.TheVariants.{Ber, Der, Cer}
use Rattle.yasna_base.specs.declared.tag.PCBit.TheVariants.{Primitive}
use Rattle.yasna_base.specs.declared.tag.Tag.{Tag}
use Rattle.yasna_base.specs.Bits.{bits_tag, padded, unused_bits, bit_pieces}
use Rattle.yasna_base.specs.Canonical.{canonical_element, definite_element, indefinite_element}
use Rattle.yasna_base.specs.Segmented.{Segmentation, segmented_encoding}
use Rattle.yasna_base.specs.Digits.{digits}
use Rattle.yasna_base.specs.Identifier.{identifier}
use Rattle.yasna_base.specs.Length.{shortest_length}
use Rattle.yasna_base.specs.Octets.{octets_encoding}
use Rattle.yasna_base.specs.Segments.{segments}
use Rattle.yasna_base.proofs.Bits.{padded_length}
use Rattle.yasna_base.proofs.Segments.{segments_more, segments_one}
use Rattle.yasna_writer.specs.Segments.{is_cut, octet_segment, in_octet_segments, bit_segment, in_bit_segments, bits_with}
use Rattle.yasna_writer.specs.State.{Appended}
use Rattle.yasna_writer.specs.View.{Written}
use Rattle.yasna_writer.proofs.Padding.{contents_with}

-- what is cut is an element of indefinite length around its segments
pub goes_apart : {A : Type 0} (k : Segmentation A) (contents : A → List ℕ) (pieces : A → List A) (t : Tag) (m : BERMode) (v : A) →
    is_cut m k.full (length (k.bytes v)) ≡ true →
    indefinite_element t (flat_map (λ w. canonical_element Der k.segment Primitive (contents w)) (pieces v)) ≡ segmented_encoding k contents pieces t m v
unfolding canonical_element
goes_apart k contents pieces t Ber v h = absurd (cc)
goes_apart k contents pieces t Der v h = absurd (cc)
goes_apart k contents pieces t Cer v h = rw h refl

-- 1000 octets or fewer aren't cut
pub octets_whole : (t : Tag) (m : BERMode) (b : List ℕ) → length b ≤ 1000 → canonical_element m t Primitive b ≡ octets_encoding t m b
octets_whole t Ber b h = refl
octets_whole t Der b h = refl
octets_whole t Cer b h = grind (arith, nat_tests)

-- a full segment of octets, and those after it
pub octets_more : (b : List ℕ) → 1000 < length b → in_octet_segments b ≡ octet_segment (take 1000 b) ++ in_octet_segments (drop 1000 b)
octets_more b h = ap (flat_map octet_segment) (segments_more 1000 b (omega arith) h)

-- the last
pub octets_one : (b : List ℕ) → length b ≤ 1000 → in_octet_segments b ≡ octet_segment b
octets_one b h = ap (flat_map octet_segment) (segments_one 1000 b h) ∙ append-nil (octet_segment b)

-- zeros take the place of the low bits once
cleared_low : (x u : ℕ) → (x - x % 2 ^ u) % 2 ^ u ≡ 0
cleared_low x u =
    let e : x - x % 2 ^ u ≡ 2 ^ u * (x / 2 ^ u) = let i = div-add-mod x (2 ^ u) in omega arith in
    ap (λ y. y % 2 ^ u) e ∙ mul-mod_right (2 ^ u) (x / 2 ^ u)

padded_twice : (u : ℕ) (d : List ℕ) → padded u (padded u d) ≡ padded u d
padded_twice u [] = refl
padded_twice u (x ∷ []) = let e = cleared_low x u in let f : (x - x % 2 ^ u) - (x - x % 2 ^ u) % 2 ^ u ≡ x - x % 2 ^ u = omega arith in ap (λ y. y ∷ []) f
padded_twice u (x ∷ y ∷ []) = ap (λ z. x ∷ z) (padded_twice u (y ∷ []))
padded_twice u (x ∷ y ∷ z ∷ zs) = ap (λ d. x ∷ d) (padded_twice u (y ∷ z ∷ zs))

-- where no bit is left over, none is cleared
padded_none : (d : List ℕ) → padded 0 d ≡ d
padded_none [] = refl
padded_none (x ∷ []) = let f : x - x % 2 ^ 0 ≡ x = omega arith in ap (λ y. y ∷ []) f
padded_none (x ∷ y ∷ ys) = ap (λ d. x ∷ d) (padded_none (y ∷ ys))

-- only the last byte changes
padded_take : (u n : ℕ) (d : List ℕ) → n < length d → take n (padded u d) ≡ take n d
padded_take u n [] h = absurd (omega (arith, h))
padded_take u zero (x ∷ d) h = refl
padded_take u (suc n) (x ∷ []) h = absurd (omega (arith, h))
padded_take u (suc n) (x ∷ y ∷ ys) h = ap (λ d. x ∷ d) (padded_take u n (y ∷ ys) (omega (arith, h)))

padded_drop : (u n : ℕ) (d : List ℕ) → n < length d → drop n (padded u d) ≡ padded u (drop n d)
padded_drop u n [] h = absurd (omega (arith, h))
padded_drop u zero (x ∷ d) h = refl
padded_drop u (suc n) (x ∷ []) h = absurd (omega (arith, h))
padded_drop u (suc n) (x ∷ y ∷ ys) h = padded_drop u n (y ∷ ys) (omega (arith, h))

-- a segment before others is full
pieces_more : (b : List ℕ) (bs : List (List ℕ)) (k : ℕ) → 1 ≤ length bs →
    bit_pieces (b ∷ bs) k ≡ record { bytes = b; count = 8 * length b } ∷ bit_pieces bs (k - 8 * length b)
pieces_more b [] k h = absurd (omega (arith, h))
pieces_more b (c ∷ bs) k h = refl

some_segments : (k : ℕ) (v : List ℕ) → 1 ≤ k → 1 ≤ length (segments k v)
some_segments k v h = elim (cases_lt k (length v)) [
  | inl i ↦ omega (arith, ap length (segments_more k v h i))
  | inr i ↦ omega (arith, ap length (segments_one k v i))
]

-- as many bits are left over after a prefix of bytes
pub unused_with : (u : ℕ) (b : List ℕ) → u < 8 → 1 ≤ length b → unused_bits (bits_with u b) ≡ u
unused_with u b h some = omega arith

-- a full segment of bits, and those after it
pub bits_more : (u : ℕ) (b : List ℕ) → u < 8 → 999 < length b →
    in_bit_segments (bits_with u b) ≡ bit_segment (bits_with 0 (take 999 b)) ++ in_bit_segments (bits_with u (drop 999 b))
bits_more u b h long =
    let p = padded u b in
    let n = padded_length u b in
    let after = length-drop 999 b in
    let prefix = length-take 999 b in
    let own = unused_with u b h (omega (arith, long)) in
    let rest = unused_with u (drop 999 b) h (omega (arith, after)) in
    let count : (8 * length b - u) - 8 * length (take 999 b) ≡ 8 * length (drop 999 b) - u = omega arith in
    let whole : 8 * length (take 999 b) ≡ 8 * length (take 999 b) - 0 = omega arith in
    ap (λ j. flat_map bit_segment (bit_pieces (segments 999 (padded j b)) (8 * length b - u))) own
    ∙ ap (λ bs. flat_map bit_segment (bit_pieces bs (8 * length b - u)))
    (segments_more 999 p (omega arith) (omega arith) ∙ ap₂ (λ x y. x ∷ segments 999 y) (padded_take u 999 b long) (padded_drop u 999 b long))
    ∙ ap (flat_map bit_segment) (pieces_more (take 999 b) (segments 999 (padded u (drop 999 b))) (8 * length b - u)
    (some_segments 999 (padded u (drop 999 b)) (omega arith)))
    ∙ ap (λ k. bit_segment (record { bytes = take 999 b; count = k }) ++ flat_map bit_segment (bit_pieces (segments 999 (padded u (drop 999 b)))
    ((8 * length b - u) - 8 * length (take 999 b)))) whole
    ∙ ap₂ (λ k j. bit_segment (bits_with 0 (take 999 b)) ++ flat_map bit_segment (bit_pieces (segments 999 (padded j (drop 999 b))) k)) count (sym rest)

-- the last
pub bits_one : (u : ℕ) (b : List ℕ) → u < 8 → 1 ≤ length b → length b ≤ 999 → in_bit_segments (bits_with u b) ≡ bit_segment (bits_with u b)
bits_one u b h some fits =
    let j = unused_bits (bits_with u b) in
    let n = padded_length j b in
    let k = 8 * length b - u in
    let left : 8 * length (padded j b) - k ≡ j = omega arith in
    ap (λ bs. flat_map bit_segment (bit_pieces bs k)) (segments_one 999 (padded j b) (omega arith))
    ∙ append-nil (bit_segment (record { bytes = padded j b; count = k }))
    ∙ ap (λ i. canonical_element Der bits_tag Primitive (i ∷ padded i (padded j b))) left
    ∙ ap (λ d. canonical_element Der bits_tag Primitive (j ∷ d)) (padded_twice j b)

-- 1000 octets are after their tag and 1000 in two bytes
pub full_octets : (b : List ℕ) → length b ≡ 1000 → (4 ∷ 130 ∷ 3 ∷ 232 ∷ []) ++ b ≡ octet_segment b
unfolding canonical_element definite_element identifier shortest_length digits
full_octets b h = ap (λ n. 4 ∷ (shortest_length n ++ b)) (sym h)

-- 999 bytes of bits are after their tag, 1000 in two bytes, and a count of no unused bits
pub full_bits : (b : List ℕ) → length b ≡ 999 → (3 ∷ 130 ∷ 3 ∷ 232 ∷ 0 ∷ []) ++ b ≡ bit_segment (bits_with 0 b)
unfolding canonical_element definite_element identifier shortest_length digits
full_bits b h =
    let e : 0 ≡ 8 * length b - (8 * length b - 0) = omega arith in
    let n : 1000 ≡ length (0 ∷ b) = omega (arith, h) in
    ap (λ k. 3 ∷ (shortest_length k ++ 0 ∷ b)) n ∙ ap (λ d. definite_element bits_tag Primitive (0 ∷ d)) (sym (padded_none b))
    ∙ ap (λ u. definite_element bits_tag Primitive (u ∷ padded u b)) e

-- the last one, as it is written
pub last_segment : (m : BERMode) (bytes prefix : List ℕ) (last u : ℕ) → last < 256 → u < 8 → bytes ≡ prefix ++ last ∷ [] →
    canonical_element m bits_tag Primitive (u ∷ (prefix ++ (last / 2 ^ u * 2 ^ u % 256) ∷ [])) ≡ bit_segment (bits_with u bytes)
unfolding canonical_element
last_segment m bytes prefix last u byte few split = ap (definite_element bits_tag Primitive) (sym (contents_with bytes prefix last u byte few split))

-- where a segment was appended, what is left completes the same
pub segment_appended : (w mid new : Written) (rest next piece : List ℕ) → new ≡ record mid { bytes = mid.bytes ++ piece } → rest ≡ piece ++ next →
    record mid { bytes = mid.bytes ++ rest } ≡ w → record new { bytes = new.bytes ++ next } ≡ w
segment_appended w mid new rest next piece e f done =
    ap (λ (z : Written). record z { bytes = z.bytes ++ next }) e
    ∙ ap (λ x. record mid { bytes = x }) (append_assoc mid.bytes piece next ∙ ap (λ x. mid.bytes ++ x) (sym f))
    ∙ done

-- the last one completes it
pub goes_out : (w mid new : Written) (r : Result (Unit {0}) ASN1Error) (all rest piece : List ℕ) → Appended piece mid new r → rest ≡ piece →
    record mid { bytes = mid.bytes ++ rest } ≡ record w { bytes = w.bytes ++ all } → Appended all w new r
goes_out w mid new r all rest piece h f done =
    MatchResult-weaker r h (λ _ e. e ∙ ap (λ x. record mid { bytes = mid.bytes ++ x }) (sym f) ∙ done) (λ k e. e)
