-- Pieces of bit strings: how many bits of them are unused, and how a further one adds to them.
use Rattle.std.proofs.Common.{◌≡◌, ℕ, zero, suc, ◌+◌, ◌*◌, ◌%◌, ◌^◌, ◌<◌, ◌≤◌, List, [], ◌∷◌, ◌++◌, length, refl, ap, ◌∙◌, sym, arith, append-nil, length-append}
use Rattle.std.proofs.lemmas.Grind.{flat_map-append}
use Rattle.std.specs.List.{flat_map, AllByRecursion}
use Rattle.yasna_base.specs.declared.mode.BERMode.{BERMode}
use Rattle.yasna_base.specs.declared.tag.Tag.{Tag}
use Rattle.yasna_base.specs.Bits.{BitString, IsFull, AreFullBeforeLast, all_bits, AreBitsJoined, MayFollow, bits_segmentation, IsBits}
use Rattle.yasna_base.specs.Segmented.{segment_mode, whole, in_segments, IsSegmented}
use Rattle.yasna_base.specs.Pieces.{Each}
use Rattle.yasna_base.proofs.Bits.{full_before, all_bits_append}
use Rattle.yasna_base.proofs.Segmented.{segmented_zero, segmented_into}

-- the bits are all of the bytes but fewer than eight
pub record IsNonEmpty (v : BitString) : Type 0 where
  pub unused : ℕ
  pub below : unused ≤ 7
  pub counted : v.count + unused ≡ 8 * length v.bytes

joined_non_empty : (vs : List BitString) → AreFullBeforeLast vs → AllByRecursion IsNonEmpty vs →
    IsNonEmpty (record { bytes = flat_map (λ (w : BitString). w.bytes) vs; count = all_bits vs })
joined_non_empty [] h f = record { unused = 0; below = omega arith; counted = refl }
joined_non_empty (v ∷ []) h f =
    let c = f.0.counted in
    record { unused = f.0.unused; below = f.0.below; counted = omega (arith, length-append v.bytes []) }
joined_non_empty (v ∷ w ∷ vs) h f =
    let i = joined_non_empty (w ∷ vs) h.1 f.1 in
    let c = i.counted in
    let d = h.0 in
    record { unused = i.unused; below = i.below; counted = omega (arith, length-append v.bytes (flat_map (λ (w : BitString). w.bytes) (w ∷ vs))) }

each_non_empty : (R : BitString → List ℕ → Type 0) → ((v : BitString) (b : List ℕ) → R v b → IsNonEmpty v) →
    (vs : List BitString) (bs : List (List ℕ)) → Each R vs bs →
    AllByRecursion IsNonEmpty vs
each_non_empty R f [] [] p = tt
each_non_empty R f [] (b ∷ bs) p = absurd p
each_non_empty R f (v ∷ vs) [] p = absurd p
each_non_empty R f (v ∷ vs) (b ∷ bs) p = (f v b p.0, each_non_empty R f vs bs p.1)

-- the bits of any bit string are all of its bytes but fewer than eight
pub bits_non_empty : (n : ℕ) (m : BERMode) (t : Tag) (v : BitString) (b : List ℕ) → IsBits t m n v b → IsNonEmpty v
bits_non_empty zero m t v b x = absurd (segmented_zero bits_segmentation m t v b x)
bits_non_empty (suc n) m t v b x = elim (segmented_into bits_segmentation n m t v b x) [
  | whole c y w a ↦ record { unused = w.unused; below = w.below; counted = w.counted }
  | in_segments h c vs y p j a ↦
      let f = joined_non_empty vs j.full
      (each_non_empty (IsSegmented bits_segmentation bits_segmentation.segment (segment_mode m) n)
      (bits_non_empty n (segment_mode m) bits_segmentation.segment) vs p.pieces p.each) in
      let i = f.counted in
      let k = j.count in
      record { unused = f.unused; below = f.below; counted = omega (arith, ap length j.bytes) }
]

full_of_eight : (vs : List BitString) → AreFullBeforeLast vs → AllByRecursion IsNonEmpty vs → all_bits vs % 8 ≡ 0 → AllByRecursion IsFull vs
full_of_eight [] h f e = tt
full_of_eight (v ∷ []) h f e = let c = f.0.counted in let u = f.0.below in (omega arith, tt)
full_of_eight (v ∷ w ∷ vs) h f e = let d = h.0 in (h.0, full_of_eight (w ∷ vs) h.1 f.1 (omega arith))

eight_of_full : (vs : List BitString) → AllByRecursion IsFull vs → all_bits vs % 8 ≡ 0
eight_of_full [] h = refl
eight_of_full (v ∷ vs) h = let e = h.0 in omega (arith, eight_of_full vs h.1)

-- segments may be followed where their bits make up whole bytes
pub eight_may_follow : (n : ℕ) (m : BERMode) (vs : List BitString) (v : BitString) (bs : List (List ℕ)) →
    Each (IsSegmented bits_segmentation bits_segmentation.segment m n) vs bs → AreBitsJoined m vs v → v.count % 8 ≡ 0 → MayFollow vs
eight_may_follow n m vs v bs p j e =
    let k = j.count in
    let l = j.in_range in
    record {
      full = full_of_eight vs j.full (each_non_empty (IsSegmented bits_segmentation bits_segmentation.segment m n)
          (bits_non_empty n m bits_segmentation.segment) vs bs p) (omega arith);
      in_range = omega arith;
    }

pub may_follow_eight : (m : BERMode) (vs : List BitString) (v : BitString) → AreBitsJoined m vs v → MayFollow vs → v.count % 8 ≡ 0
may_follow_eight m vs v j h = let k = j.count in omega (arith, eight_of_full vs h.full)

-- a further segment after those that may be followed
pub joined_more : (m : BERMode) (vs : List BitString) (v w : BitString) (n : ℕ) → AreBitsJoined m vs v → MayFollow vs →
    v.count + w.count < 2 ^ 64 → n ≡ v.count + w.count →
    AreBitsJoined m (vs ++ (w ∷ [])) (record { bytes = v.bytes ++ w.bytes; count = n })
joined_more m vs v w n j h l e =
    let k = j.count in
    record {
      full = full_before vs w h.full;
      bytes = ap (λ z. z ++ w.bytes) j.bytes ∙ ap (λ z. flat_map (λ (w : BitString). w.bytes) vs ++ z) (sym (append-nil w.bytes))
          ∙ sym (flat_map-append (λ (w : BitString). w.bytes) vs (w ∷ []));
      count = omega (arith, all_bits_append vs (w ∷ []));
      in_range = omega arith;
    }

-- segments of too many bits make no string, and aren't followed
pub too_many_joined : (m : BERMode) (vs ws : List BitString) (v w u : BitString) → (v.count + w.count < 2 ^ 64 → ⊥) → AreBitsJoined m vs v →
    AreBitsJoined m (vs ++ (w ∷ ws)) u → ⊥
too_many_joined m vs ws v w u n j h =
    let i = j.count in
    let k = h.count in
    let l = h.in_range in
    omega (arith, all_bits_append vs (w ∷ ws))

pub too_many_follow : (m : BERMode) (vs ws : List BitString) (v w : BitString) → (v.count + w.count < 2 ^ 64 → ⊥) → AreBitsJoined m vs v →
    MayFollow (vs ++ (w ∷ ws)) → ⊥
too_many_follow m vs ws v w n j h =
    let i = j.count in
    let l = h.in_range in
    omega (arith, all_bits_append vs (w ∷ ws))
