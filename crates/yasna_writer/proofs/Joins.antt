-- Headers and contents joined in place, one header after the other, from the last one on.
use Rattle.std.proofs.Common.{◌≡◌, ℕ, ◌+◌, ◌-◌, ◌≤◌, List, [], ◌∷◌, ◌++◌, length, take, drop, take-add, sym, subst, ap, ap₂, ◌∙◌, arith, append_assoc, length-append, length-take}
use Rattle.std.proofs.lemmas.List.{take-take, drop-drop}
use Rattle.std.proofs.lemmas.List.Edits.{length-between}
use Rattle.std.proofs.lemmas.Slice.{between_is}
use Rattle.std.specs.Prelude.{slice_range}
use Rattle.yasna_writer.specs.declared.buffer.Slot.{Slot}
use Rattle.yasna_writer.specs.declared.header.PartsHeader.{PartsHeader}
use Rattle.yasna_writer.specs.Buffer.{header_of_state, joined, AreInOrder, headers_length}
use Rattle.yasna_writer.specs.Put.{PutBefore}
use Rattle.yasna_writer.proofs.Buffers.{joined_around, order_split, headers_length_append}
use Rattle.yasna_writer.proofs.Puts.{put_prefix, put_back, put_then}

-- what is where headers are still to be placed, the last of them at `place`
pub record PlacesLast (ls : List PartsHeader) (prefix : List Slot) (e : Slot) (from to : ℕ) : Type 0 where
  pub ordered : AreInOrder 0 prefix e.place
  pub after : e.place ≤ from
  pub room : to ≡ (e.place + headers_length ls prefix) + ((from - e.place) + length (header_of_state ls e.state))

pub places_last :
    (ls : List PartsHeader) (rest prefix : List Slot) (e : Slot) (from to : ℕ) → rest ≡ prefix ++ (e ∷ []) → AreInOrder 0 rest from
    → to ≡ from + headers_length ls rest → PlacesLast ls prefix e from to
places_last ls rest prefix e from to s o r =
    let split = order_split 0 prefix e [] from (subst (λ (es : List Slot). AreInOrder 0 es from) s o) in
    record {
      ordered = split.0;
      after = split.1;
      room = omega (arith, r, ap (headers_length ls) s, headers_length_append ls prefix (e ∷ []), split.1);
    }

-- a piece and the header before it were put
pub placed_last :
    (ls : List PartsHeader) (rest prefix : List Slot) (e : Slot) (from to start : ℕ) (old new : List ℕ) → rest ≡ prefix ++ (e ∷ [])
    → PlacesLast ls prefix e from to → to ≤ length old
    → PutBefore (header_of_state ls e.state ++ slice_range old e.place from) to old new start
    → joined ls rest (take from old) ++ drop to old ≡ joined ls prefix (take e.place new) ++ drop start new
placed_last ls rest prefix e from to start old new s l within p =
    let h = header_of_state ls e.state in
    let c = take from old in
    let piece = slice_range old e.place from in
    let long : length c ≡ from = omega (arith, length-take from old, l.room, l.after, within) in
    let there : e.place ≤ start = omega (
      arith,
      p.place,
      l.room,
      l.after,
      length-append h piece,
      length-between old e.place from (omega (arith, l.room, l.after, within)),
    ) in
    ap (λ x. joined ls x c ++ drop to old) s
    ∙ ap (λ x. x ++ drop to old) (joined_around ls 0 prefix e [] c l.ordered (omega (arith, long, l.after)))
    ∙ append_assoc (joined ls prefix (take e.place c)) (h ++ drop e.place c) (drop to old)
    ∙ ap₂ (λ x y. joined ls prefix x ++ y) (take-take e.place from old l.after ∙ sym (put_prefix (h ++ piece) to old new start e.place p within there))
    (ap (λ x. (h ++ x) ++ drop to old) (sym (between_is old e.place from)) ∙ sym (put_back (h ++ piece) to old new start p within))

range_in_two : (xs : List ℕ) (a b c : ℕ) → a ≤ b → b ≤ c → slice_range xs a b ++ slice_range xs b c ≡ slice_range xs a c
range_in_two xs a b c h k =
    let back : drop (b - a) (drop a xs) ≡ drop b xs = drop-drop (b - a) a xs ∙ (let e : a + (b - a) ≡ b = omega arith in ap (λ n. drop n xs) e) in
    let whole : (b - a) + (c - b) ≡ c - a = omega arith in
    ap (λ x. take (b - a) (drop a xs) ++ take (c - b) x) (sym back) ∙ sym (take-add (b - a) (c - b) (drop a xs)) ∙ ap (λ n. take n (drop a xs)) whole

-- one piece more of those that are moved
pub shifted_more :
    (start from end to n place next : ℕ) (old one new : List ℕ) → start ≡ from - n → n ≤ from → from ≤ end → end ≤ to → to ≤ length old
    → PutBefore (slice_range old from end) to old one place → PutBefore (slice_range one start from) place one new next
    → PutBefore (slice_range old start end) to old new next
shifted_more start from end to n place next old one new s few l up within p q =
    let long = length-between old from end (omega (arith, up, within)) in
    let under : from ≤ place = omega (arith, p.place, long, l, up) in
    let same : slice_range one start from ≡ slice_range old start from =
    between_is one start from ∙ ap (drop start) (put_prefix (slice_range old from end) to old one place from p within under) ∙ sym (between_is old start from) in
    put_then _ _ _ _ _ _ _ _ _ p q within
    (ap (λ x. x ++ slice_range old from end) same ∙ range_in_two old start from end (omega (arith, s, few)) l)
