-- Bytes in segments: they join to the bytes, and only so can the bytes be cut.
use Rattle.std.proofs.Common.{◌≡◌, ℕ, zero, suc, ◌+◌, ◌<◌, ◌≤◌, List, [], ◌∷◌, ◌++◌, length, take, drop, refl, ap, ap₂, ◌∙◌, sym, inl, inr, arith, subst, lt-ltb, le-ltb, length-append, append-nil}
use Rattle.std.proofs.lemmas.Bool.{cases_lt}
use Rattle.std.proofs.lemmas.List.{take-append-drop, length-take-le, length-drop}
use Rattle.std.specs.List.{AllByRecursion, concat}
use Rattle.yasna_base.specs.Digits.{IsBytes}
use Rattle.yasna_base.specs.Segments.{AreSegments, cut_up, segments}
use Rattle.yasna_base.proofs.Digits.{bytes_prefix, bytes_after}
use Rattle.yasna_base.proofs.Lists.{prefixes_same}

-- what fits a segment is one
cut_one : (k f : ℕ) (v : List ℕ) → length v ≤ k → cut_up k f v ≡ v ∷ []
unfolding cut_up
cut_one k zero v h = refl
cut_one k (suc f) v h = rw (le-ltb k (length v) h) refl

-- what doesn't begins with a full one
cut_more : (k f : ℕ) (v : List ℕ) → k < length v → cut_up k (suc f) v ≡ take k v ∷ cut_up k f (drop k v)
unfolding cut_up
cut_more k f v h = rw (lt-ltb k (length v) h) refl

-- a full segment before others
segments_after : (k : ℕ) (v : List ℕ) (bs : List (List ℕ)) → length v ≡ k → AreSegments k bs → AreSegments k (v ∷ bs)
segments_after k v [] e h = absurd h
segments_after k v (b ∷ bs) e h = (e, h)

segments_some : (k : ℕ) (bs : List (List ℕ)) → AreSegments k bs → 1 ≤ length bs
segments_some k [] h = absurd h
segments_some k (b ∷ bs) h = omega arith

-- segments hold a byte or more
pub segments_long : (k : ℕ) (bs : List (List ℕ)) → AreSegments k bs → 1 ≤ length (concat bs)
segments_long k [] h = absurd h
segments_long k (v ∷ []) h = let i = length-append v [] in let j = h.0 in omega (arith, i)
segments_long k (v ∷ w ∷ vs) h = let i = segments_long k (w ∷ vs) h.1 in let j = length-append v (concat (w ∷ vs)) in omega (arith, i, j)

-- and, where there are two, more than fill one
pub segments_over : (k : ℕ) (bs : List (List ℕ)) → AreSegments k bs → 2 ≤ length bs → k < length (concat bs)
segments_over k [] h n = absurd h
segments_over k (v ∷ []) h n = absurd (omega (arith, n))
segments_over k (v ∷ w ∷ vs) h n =
    let i = segments_long k (w ∷ vs) h.1 in
    let j = length-append v (concat (w ∷ vs)) in
    let e = h.0 in
    omega (arith, i, j)

-- what the segments of bytes are: k of them or fewer fill each, and they join to the bytes
pub record IsCutUp (k : ℕ) (v : List ℕ) (bs : List (List ℕ)) : Type 0 where
  pub each : AreSegments k bs
  pub joined : concat bs ≡ v

cut_up_is : (k f : ℕ) (v : List ℕ) → 1 ≤ k → 1 ≤ length v → length v ≤ k + f → IsCutUp k v (cut_up k f v)
cut_up_is k zero v some h fits = subst (IsCutUp k v) (sym (cut_one k zero v (omega (arith, fits))))
    (record { each = (h, omega (arith, fits)); joined = append-nil v })
cut_up_is k (suc f) v some h fits = elim (cases_lt k (length v)) [
  | inl i ↦
      let n = length-drop k v in
      let rest = cut_up_is k f (drop k v) some (omega (arith, n)) (omega (arith, n)) in
      subst (IsCutUp k v) (sym (cut_more k f v i)) (record {
        each = segments_after k (take k v) (cut_up k f (drop k v)) (length-take-le k v (omega (arith, i))) rest.each;
        joined = ap (λ z. take k v ++ z) rest.joined ∙ take-append-drop k v;
      })
  | inr i ↦ subst (IsCutUp k v) (sym (cut_one k (suc f) v i)) (record { each = (h, i); joined = append-nil v })
]

-- the segments of bytes are segments that join to them
pub segments_are : (k : ℕ) (v : List ℕ) → 1 ≤ k → 1 ≤ length v → IsCutUp k v (segments k v)
segments_are k v some h = cut_up_is k (length v) v some h (omega (arith))

two_of : (k : ℕ) (bs : List (List ℕ)) → AreSegments k bs → k < length (concat bs) → 2 ≤ length bs
two_of k [] h n = absurd h
two_of k (v ∷ []) h n = let i = length-append v [] in let j = h.1 in absurd (omega (arith, n, i))
two_of k (v ∷ w ∷ vs) h n = omega arith

-- where there is more than fills one, they are two or more
pub segments_two : (k : ℕ) (v : List ℕ) → 1 ≤ k → k < length v → 2 ≤ length (segments k v)
segments_two k v some h =
    let x = segments_are k v some (omega (arith, h)) in
    two_of k (segments k v) x.each (subst (λ z. k < length z) (sym x.joined) h)

segmented_only : (k f : ℕ) (bs : List (List ℕ)) → 1 ≤ k → AreSegments k bs → length (concat bs) ≤ k + f → cut_up k f (concat bs) ≡ bs
segmented_only k f [] some h fits = absurd h
segmented_only k f (v ∷ []) some h fits =
    ap (cut_up k f) (append-nil v) ∙ cut_one k f v h.1
segmented_only k zero (v ∷ w ∷ vs) some h fits =
    let i = segments_over k (v ∷ w ∷ vs) h (omega arith) in absurd (omega (arith, i, fits))
segmented_only k (suc f) (v ∷ w ∷ vs) some h fits =
    let i = segments_over k (v ∷ w ∷ vs) h (omega arith) in
    let j = length-append v (concat (w ∷ vs)) in
    let e = h.0 in
    let t = take-append-drop k (concat (v ∷ w ∷ vs)) in
    let same = prefixes_same (take k (concat (v ∷ w ∷ vs))) v (drop k (concat (v ∷ w ∷ vs))) (concat (w ∷ vs))
    (length-take-le k (concat (v ∷ w ∷ vs)) (omega (arith, i)) ∙ sym e) t in
    cut_more k f (concat (v ∷ w ∷ vs)) i
    ∙ ap₂ (λ x y. x ∷ cut_up k f y) same.0 same.1
    ∙ ap (λ z. v ∷ z) (segmented_only k f (w ∷ vs) some h.1 (omega (arith, j, fits)))

-- bytes are cut into segments in one way
pub segments_only : (k : ℕ) (bs : List (List ℕ)) (v : List ℕ) → 1 ≤ k → AreSegments k bs → concat bs ≡ v → bs ≡ segments k v
segments_only k bs v some h e = subst (λ z. bs ≡ segments k z) e (sym (segmented_only k (length (concat bs)) bs some h (omega arith)))

-- what fits a segment is the only one
pub segments_one : (k : ℕ) (v : List ℕ) → length v ≤ k → segments k v ≡ v ∷ []
segments_one k v h = cut_one k (length v) v h

-- a full segment and those of the rest
pub segments_more : (k : ℕ) (v : List ℕ) → 1 ≤ k → k < length v → segments k v ≡ take k v ∷ segments k (drop k v)
segments_more k v some h =
    let n = length-drop k v in
    let rest = segments_are k (drop k v) some (omega (arith, n)) in
    sym (segments_only k (take k v ∷ segments k (drop k v)) v some
    (segments_after k (take k v) (segments k (drop k v)) (length-take-le k v (omega (arith, h))) rest.each)
    (ap (λ z. take k v ++ z) rest.joined ∙ take-append-drop k v))

-- segments of bytes are bytes
pub segments_bytes : (bs : List (List ℕ)) → IsBytes (concat bs) → AllByRecursion IsBytes bs
segments_bytes [] h = tt
segments_bytes (b ∷ bs) h = (bytes_prefix b (concat bs) h, segments_bytes bs (bytes_after b (concat bs) h))
