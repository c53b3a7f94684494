-- Entries that are in blocks.
use Rattle.std.proofs.Common.{◌≡◌, ℕ, zero, suc, ◌+◌, ◌-◌, ◌*◌, ◌/◌, ◌%◌, ◌^◌, ◌<◌, ◌≤◌, List, [], ◌∷◌, ◌++◌, length, refl, sym, ap, ap₂, ◌∙◌, inl, inr, arith, subst, append_assoc, append-nil, length-append}
use Rattle.std.specs.Prelude.{Vec, Option, Some, None, set, slice_get, option_to_list, IsSome, MatchOption}
use Rattle.std.specs.Global.{Global}
use Rattle.std.proofs.lemmas.Bool.{cases_lt}
use Rattle.std.proofs.lemmas.List.{length-set, set-append_left, set-append_right}
use Rattle.yasna_writer.specs.declared.buffer.Slot.{Slot}
use Rattle.yasna_writer.specs.Slots.{in_blocks, AreFull, AreBlocks, PutsAfter}

-- blocks after others
pub in_blocks_after : (bs cs : List (Vec Slot Global)) → in_blocks (bs ++ cs) ≡ in_blocks bs ++ in_blocks cs
in_blocks_after [] cs = refl
in_blocks_after (b ∷ bs) cs = ap (λ x. b.items ++ x) (in_blocks_after bs cs) ∙ sym (append_assoc b.items (in_blocks bs) (in_blocks cs))

pub in_blocks_last : (bs : List (Vec Slot Global)) (b : Vec Slot Global) → in_blocks (bs ++ (b ∷ [])) ≡ in_blocks bs ++ b.items
in_blocks_last bs b = in_blocks_after bs (b ∷ []) ∙ ap (λ x. in_blocks bs ++ x) (append-nil b.items)

pub are_full_after : (bs cs : List (Vec Slot Global)) → AreFull bs → AreFull cs → AreFull (bs ++ cs)
are_full_after [] cs f g = g
are_full_after (b ∷ bs) cs f g = (f.0, are_full_after bs cs f.1 g)

pub are_full_prefix : (bs cs : List (Vec Slot Global)) → AreFull (bs ++ cs) → AreFull bs × AreFull cs
are_full_prefix [] cs f = (tt, f)
are_full_prefix (b ∷ bs) cs f = let r = are_full_prefix bs cs f.1 in ((f.0, r.0), r.1)

get_prefix : (xs ys : List Slot) (i : ℕ) → i < length xs → slice_get (xs ++ ys) i ≡ slice_get xs i
get_prefix [] ys i h = absurd (omega arith)
get_prefix (x ∷ xs) ys zero h = refl
get_prefix (x ∷ xs) ys (suc i) h = get_prefix xs ys i (omega arith)

get_after : (xs ys : List Slot) (i : ℕ) → length xs ≤ i → slice_get (xs ++ ys) i ≡ slice_get ys (i - length xs)
get_after [] ys i h = let e : i ≡ i - 0 = omega arith in ap (slice_get ys) e
get_after (x ∷ xs) ys zero h = absurd (omega arith)
get_after (x ∷ xs) ys (suc i) h = let e : i - length xs ≡ suc i - suc (length xs) = omega arith in get_after xs ys i (omega arith) ∙ ap (slice_get ys) e

-- an entry after a full block
after_block : (b : Vec Slot Global) (ys : List Slot) (i : ℕ) → length b.items ≡ 4096 → 4096 ≤ i → slice_get (b.items ++ ys) i ≡ slice_get ys (i - 4096)
after_block b ys i l h = get_after b.items ys i (omega (arith, l)) ∙ ap (λ n. slice_get ys (i - n)) l

-- a slot of full blocks is in the block of its number
pub slot_in_block :
    (bs : List (Vec Slot Global)) (i : ℕ) (b : Vec Slot Global) → AreFull bs → slice_get bs (i / 4096) ≡ Some b
    → slice_get (in_blocks bs) i ≡ slice_get b.items (i % 4096)
slot_in_block [] i b f e = absurd (cc)
slot_in_block (c ∷ cs) i b f e = elim (cases_lt i 4096) [
  | inl h ↦
      let q : 0 ≡ i / 4096 = omega arith in
      let r : i ≡ i % 4096 = omega arith in
      let same : c ≡ b = cc (ap (slice_get (c ∷ cs)) q ∙ e) in
      get_prefix c.items (in_blocks cs) i (omega (arith, f.0)) ∙ ap₂ (λ (v : Vec Slot Global) n. slice_get v.items n) same r
  | inr h ↦
      let q : suc ((i - 4096) / 4096) ≡ i / 4096 = omega arith in
      let r : (i - 4096) % 4096 ≡ i % 4096 = omega arith in
      after_block c (in_blocks cs) i f.0 h ∙ slot_in_block cs (i - 4096) b f.1 (ap (slice_get (c ∷ cs)) q ∙ e) ∙ ap (slice_get b.items) r
]

-- a slot whose block is absent is absent
pub slot_in_none :
    (bs : List (Vec Slot Global)) (i : ℕ) → AreFull bs → slice_get bs (i / 4096) ≡ None → slice_get (in_blocks bs) i ≡ None
slot_in_none [] i f e = refl
slot_in_none (c ∷ cs) i f e = elim (cases_lt i 4096) [
  | inl h ↦ let q : 0 ≡ i / 4096 = omega arith in absurd (cc (ap (slice_get (c ∷ cs)) q ∙ e))
  | inr h ↦
      let q : suc ((i - 4096) / 4096) ≡ i / 4096 = omega arith in
      after_block c (in_blocks cs) i f.0 h ∙ slot_in_none cs (i - 4096) f.1 (ap (slice_get (c ∷ cs)) q ∙ e)
]

-- how many entries they hold
pub in_blocks_length : (bs : List (Vec Slot Global)) → AreFull bs → length (in_blocks bs) ≡ 4096 * length bs
in_blocks_length [] f = omega arith
in_blocks_length (b ∷ bs) f = omega (arith, length-append b.items (in_blocks bs), f.0, in_blocks_length bs f.1)

pub block_is_full : (bs : List (Vec Slot Global)) (k : ℕ) (b : Vec Slot Global) → AreFull bs → slice_get bs k ≡ Some b → length b.items ≡ 4096
block_is_full [] k b f e = absurd (cc)
block_is_full (c ∷ cs) zero b f e = let same : c ≡ b = cc e in ap (λ (v : Vec Slot Global). length v.items) (sym same) ∙ f.0
block_is_full (c ∷ cs) (suc k) b f e = block_is_full cs k b f.1 e

-- an entry that is put in place of one, in the block of its number
pub put_in_block :
    (bs : List (Vec Slot Global)) (i : ℕ) (b c : Vec Slot Global) (x : Slot) → AreFull bs → i < length (in_blocks bs) → slice_get bs (i / 4096) ≡ Some b
    → c.items ≡ set b.items (i % 4096) x → (in_blocks (set bs (i / 4096) c) ≡ set (in_blocks bs) i x) × AreFull (set bs (i / 4096) c)
put_in_block [] i b c x f h e s = absurd (cc)
put_in_block (d ∷ ds) i b c x f h e s = elim (cases_lt i 4096) [
  | inl l ↦
      let q : i / 4096 ≡ 0 = omega arith in
      let r : i % 4096 ≡ i = omega arith in
      let same : d ≡ b = cc (ap (slice_get (d ∷ ds)) (sym q) ∙ e) in
      let put : c.items ≡ set d.items i x = s ∙ ap₂ (λ (v : Vec Slot Global) n. set v.items n x) (sym same) r in
      let fits : length c.items ≡ 4096 = ap length put ∙ length-set d.items i x ∙ f.0 in
      rw q (ap (λ z. z ++ in_blocks ds) put ∙ sym (set-append_left d.items (in_blocks ds) i x (omega (arith, f.0))), (fits, f.1))
  | inr l ↦
      let q : i / 4096 ≡ suc ((i - 4096) / 4096) = omega arith in
      let r : i % 4096 ≡ (i - 4096) % 4096 = omega arith in
      let p = put_in_block ds (i - 4096) b c x f.1 (omega (arith, h, length-append d.items (in_blocks ds), f.0, l))
      (ap (slice_get (d ∷ ds)) (sym q) ∙ e) (s ∙ ap (λ n. set b.items n x) r) in
      rw q (ap (λ z. d.items ++ z) p.0 ∙ sym (set-append_right d.items (in_blocks ds) 4096 i x f.0 l), (f.0, p.1))
]

-- where the last block is full, and another begins after it
pub begun :
    (full new : List (Vec Slot Global)) (before sum : ℕ) (block left last : List Slot) → AreBlocks full before block → PutsAfter block full new left
    → length block ≡ 4096 → sum ≡ before + 4096 → sum ≤ 2 ^ 63 → AreBlocks new sum last
begun full new before sum block left last a p e s few =
    let holds : length p.vec.items ≡ 4096 = ap length p.holds ∙ e in
    record {
      whole = subst AreFull (sym p.after) (are_full_after full (p.vec ∷ []) a.whole (holds, tt));
      counted = omega (
        arith,
        s,
        a.counted,
        holds,
        ap (λ x. length (in_blocks x)) p.after,
        ap length (in_blocks_last full p.vec),
        length-append (in_blocks full) p.vec.items,
      );
      few = few;
    }

-- the entries stay
pub begun_view :
    (full new : List (Vec Slot Global)) (block left : List Slot) → PutsAfter block full new left → in_blocks new ++ left ≡ in_blocks full ++ block
begun_view full new block left p =
    ap₂ (λ x y. in_blocks x ++ y) p.after p.empty ∙ append-nil (in_blocks (full ++ (p.vec ∷ []))) ∙ in_blocks_last full p.vec
    ∙ ap (λ x. in_blocks full ++ x) p.holds

-- a block becomes the last one again, and its last entry is taken out
pub popped :
    (full rest : List (Vec Slot Global)) (b : Vec Slot Global) (before : ℕ) (last left : List Slot) → AreBlocks full before last
    → full ≡ rest ++ (b ∷ []) → AreBlocks rest (before - 4096) left
popped full rest b before last left a e =
    let f = are_full_prefix rest (b ∷ []) (subst AreFull e a.whole) in
    record {
      whole = f.0;
      counted = omega (
        arith,
        a.counted,
        f.1.0,
        ap (λ x. length (in_blocks x)) e,
        ap length (in_blocks_last rest b),
        length-append (in_blocks rest) b.items,
      );
      few = omega (arith, a.few);
    }

pub popped_view :
    (full rest : List (Vec Slot Global)) (b : Vec Slot Global) (last left now : List Slot) (o : Option Slot) → AreFull full → full ≡ rest ++ (b ∷ [])
    → b.items ≡ left ++ option_to_list o → (0 < length b.items → IsSome o) → length last ≡ 0 → in_blocks full ++ last ≡ now
    → MatchOption o ((now ≡ []) × (in_blocks rest ++ left ≡ [])) (λ x. now ≡ (in_blocks rest ++ left) ++ (x ∷ []))
popped_view full rest b [] left now None f e i some none v =
    let g = are_full_prefix rest (b ∷ []) (subst AreFull e f) in absurd (cc (some (omega (arith, g.1.0))))
popped_view full rest b [] left now (Some x) f e i some none v =
    sym v ∙ append-nil (in_blocks full) ∙ ap in_blocks e ∙ in_blocks_last rest b ∙ ap (λ z. in_blocks rest ++ z) i
    ∙ sym (append_assoc (in_blocks rest) left (x ∷ []))
popped_view full rest b (y ∷ ys) left now o f e i some none v = absurd (omega arith)
