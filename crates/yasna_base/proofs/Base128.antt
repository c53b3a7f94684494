-- A number in base 128, read from the left.
use Rattle.std.proofs.Common.{◌≡◌, ℕ, ◌+◌, ◌-◌, ◌*◌, ◌^◌, ◌<◌, ◌≤◌, List, [], ◌∷◌, ◌++◌, length, get_or, refl, ap, sym, ◌∙◌, arith, ltb, lt-ltb, cond, Option, Some, None, inl, inr, le-ltb, ap₂, subst}
use Rattle.std.proofs.lemmas.Bool.{cases_lt}
use Rattle.std.specs.Int.Digits.{number_from_digits, number_from_digits_after, AllBelowBase}
use Rattle.std.proofs.lemmas.Int.Digits.{number_after_ge}
use Rattle.yasna_base.specs.Digits.{marked, IsBytes, digits, base128}
use Rattle.yasna_base.proofs.Digits.{digits_below, digits_some, digits_first, number_digits, base128_only, digits_small, base128_exact}

-- the number so far was n
abbrev pub scan : ℕ → List ℕ → Option (ℕ × List ℕ)
scan n [] = None
scan n (x ∷ s) = cond (ltb x 128) (Some (n * 128 + x, s)) (scan (n * 128 + (x - 128)) s)

-- at the last digit
pub scan_last : (n x : ℕ) (s : List ℕ) → x < 128 → scan n (x ∷ s) ≡ Some (n * 128 + x, s)
scan_last n x s h = rw (lt-ltb x 128 h) refl

-- at a digit that others follow
pub scan_more : (n x : ℕ) (s : List ℕ) → 128 ≤ x → scan n (x ∷ s) ≡ scan (n * 128 + (x - 128)) s
scan_more n x s h = rw (le-ltb x 128 h) refl

-- digits in base 128 are read as their number
pub scan_marked : (ds : List ℕ) (n : ℕ) (r : List ℕ) → AllBelowBase 128 ds → 1 ≤ length ds →
    scan n (marked ds ++ r) ≡ Some (number_from_digits_after 128 n ds, r)
scan_marked [] n r a l = absurd (omega arith)
scan_marked (d ∷ []) n r a l = scan_last n d r a.0
scan_marked (d ∷ e ∷ ds) n r a l =
    let h : 128 ≤ 128 + d = omega arith in
    let f : 128 + d - 128 ≡ d = omega arith in
    scan_more n (128 + d) (marked (e ∷ ds) ++ r) h ∙ ap (λ z. scan (n * 128 + z) (marked (e ∷ ds) ++ r)) f ∙
    scan_marked (e ∷ ds) (n * 128 + d) r a.1 (omega arith)

abbrev number_in : Option (ℕ × List ℕ) → ℕ
number_in None = 0
number_in (Some x) = x.0

abbrev rest_in : Option (ℕ × List ℕ) → List ℕ
rest_in None = []
rest_in (Some x) = x.1

grows : (n k : ℕ) (ds : List ℕ) → 1 ≤ length ds → number_from_digits_after 128 n ds ≡ k → n * 128 ≤ k
grows n k [] l e = absurd (omega arith)
grows n k (d ∷ ds) l e = let h = number_after_ge 128 (n * 128 + d) ds (omega arith) in omega arith

-- what was read are digits in base 128
pub record Scanned (n : ℕ) (s : List ℕ) (k : ℕ) (r : List ℕ) : Type 0 where
  pub digits : List ℕ
  pub below : AllBelowBase 128 digits
  pub some : 1 ≤ length digits
  pub joined : s ≡ marked digits ++ r
  pub number : number_from_digits_after 128 n digits ≡ k

marked_cons : (d : ℕ) (ds : List ℕ) → 1 ≤ length ds → marked (d ∷ ds) ≡ (128 + d) ∷ marked ds
marked_cons d [] h = absurd (omega arith)
marked_cons d (e ∷ ds) h = refl

some_of : (k j : ℕ) (r q : List ℕ) → ◌≡◌ {A = Option (ℕ × List ℕ)} (Some (j, q)) (Some (k, r)) → (j ≡ k) × (q ≡ r)
some_of k j r q e = (ap (λ (z : Option (ℕ × List ℕ)). number_in z) e, ap (λ (z : Option (ℕ × List ℕ)). rest_in z) e)

pub scanned : (s : List ℕ) (n k : ℕ) (r : List ℕ) → IsBytes s → scan n s ≡ Some (k, r) → Scanned n s k r
scanned [] n k r a e = absurd (cc)
scanned (x ∷ s) n k r a e = elim (cases_lt x 128) [
  | inl h ↦ let p = some_of k (n * 128 + x) r s (sym (scan_last n x s h) ∙ e) in
      record { digits = x ∷ []; below = (h, tt); some = omega arith; joined = ap (λ z. x ∷ z) p.1; number = p.0 }
  | inr h ↦ let w = scanned s (n * 128 + (x - 128)) k r a.1 (sym (scan_more n x s h) ∙ e) in
      let b : x < 256 = a.0 in
      let d : x - 128 < 128 = omega arith in
      let f : x ≡ 128 + (x - 128) = omega arith in
      let m : marked ((x - 128) ∷ w.digits) ≡ (128 + (x - 128)) ∷ marked w.digits = marked_cons (x - 128) w.digits w.some in
      let j : s ≡ marked w.digits ++ r = w.joined in
      record {
        digits = (x - 128) ∷ w.digits;
        below = (d, w.below);
        some = omega arith;
        joined = ap₂ (λ y z. y ∷ z) f j ∙ ap (λ z. z ++ r) (sym m);
        number = w.number;
      }
]

-- a number that is read on is at least 128 times what it was
pub scan_above : (s : List ℕ) (n x k : ℕ) (r : List ℕ) → IsBytes (x ∷ s) → scan n (x ∷ s) ≡ Some (k, r) → n * 128 ≤ k
scan_above s n x k r a e =
    let w = scanned (x ∷ s) n k r a e in grows n k w.digits w.some w.number

-- a number in base 128 is read as it is
pub scan_base : (k : ℕ) (r : List ℕ) → scan 0 (base128 k ++ r) ≡ Some (k, r)
unfolding base128
scan_base k r = scan_marked (digits 128 k) 0 r (digits_below 128 k (omega arith)) (digits_some 128 k (omega arith)) ∙
    ap (λ n. Some (n, r)) (number_digits 128 k (omega arith))

not_128 : (ds : List ℕ) (r s : List ℕ) → AllBelowBase 128 ds → 0 < get_or ds 0 0 → marked ds ++ r ≡ 128 ∷ s → ⊥
not_128 [] r s a h e = omega arith
not_128 (d ∷ []) r s a h e = let f : d ≡ 128 = cc in let b = a.0 in omega arith
not_128 (d ∷ f ∷ ds) r s a h e = let g : 128 + d ≡ 128 = cc in omega arith

not_zero : (n : ℕ) → n < 128 → (s r : List ℕ) → base128 n ++ r ≡ 128 ∷ s → ⊥
unfolding base128
not_zero n h s r e =
    let f : n ∷ r ≡ 128 ∷ s = sym (ap (λ ds. marked ds ++ r) (digits_small 128 n (omega arith) h)) ∙ e in
    let g : n ≡ 128 = cc in
    omega arith

not_large : (k : ℕ) → 128 ≤ k → (s r : List ℕ) → base128 k ++ r ≡ 128 ∷ s → ⊥
unfolding base128
not_large k h s r e = not_128 (digits 128 k) r s (digits_below 128 k (omega arith)) (digits_first 128 k (omega arith) (omega arith)) e

-- it doesn't begin with a digit of zero that others follow
pub base_head : (k : ℕ) (r s : List ℕ) → base128 k ++ r ≡ 128 ∷ s → ⊥
base_head k r s e = elim (cases_lt k 128) [ inl h ↦ not_zero k h s r e | inr h ↦ not_large k h s r e ]

one_digit : (d : ℕ) → d < 128 → base128 d ≡ d ∷ []
unfolding base128
one_digit d h = ap marked (digits_small 128 d (omega arith) h)

-- digits that don't begin with a zero that others follow are those of their number
spelling : (ds r s : List ℕ) → AllBelowBase 128 ds → 1 ≤ length ds → s ≡ marked ds ++ r → ((y : List ℕ) → s ≡ 128 ∷ y → ⊥) →
    base128 (number_from_digits 128 ds) ≡ marked ds
spelling [] r s a l e f = absurd (omega arith)
spelling (d ∷ []) r s a l e f = let z : 0 * 128 + d ≡ d = omega arith in ap base128 z ∙ one_digit d a.0
spelling (d ∷ c ∷ ds) r s a l e f = elim (cases_lt 0 d) [
  | inl g ↦ base128_only (d ∷ c ∷ ds) a g
  | inr g ↦ let z : d ≡ 0 = omega arith in absurd (f (marked (c ∷ ds) ++ r) (e ∙ ap (λ x. (128 + x) ∷ (marked (c ∷ ds) ++ r)) z))
]

-- what was read is the number's spelling, where it doesn't begin with a digit of zero
pub base_found : (s : List ℕ) (k : ℕ) (r : List ℕ) → IsBytes s → ((y : List ℕ) → s ≡ 128 ∷ y → ⊥) → scan 0 s ≡ Some (k, r) → s ≡ base128 k ++ r
base_found s k r a f e =
    let w = scanned s 0 k r a e in
    let n : number_from_digits 128 w.digits ≡ k = w.number in
    let g : base128 (number_from_digits 128 w.digits) ≡ marked w.digits = spelling w.digits r s w.below w.some w.joined f in
    w.joined ∙ ap (λ z. z ++ r) (sym g ∙ ap base128 n)

-- bytes that are read otherwise aren't a number's spelling
no_number : (s : List ℕ) (z : Option (ℕ × List ℕ)) → scan 0 s ≡ z → ((n : ℕ) (r : List ℕ) → n < 2 ^ 64 → z ≡ Some (n, r) → ⊥) →
    (n : ℕ) (r : List ℕ) → n < 2 ^ 64 → s ≡ base128 n ++ r → ⊥
no_number s z e f n r b j = f n r b (sym e ∙ ap (scan 0) j ∙ scan_base n r)

-- a number that has another digit, and is so large, passes 2^64 - 1
pub passes : (n x : ℕ) (s rest : List ℕ) (y : List ℕ) → IsBytes rest → rest ≡ x ∷ y → scan 0 s ≡ scan n rest → 2 ^ 57 ≤ n →
    (k : ℕ) (r : List ℕ) → k < 2 ^ 64 → s ≡ base128 k ++ r → ⊥
passes n x s rest y a e f h = no_number s (scan n rest) f
    (λ k r b g. let i = scan_above y n x k r (subst IsBytes e a) (sym (ap (scan n) e) ∙ g) in omega arith)

-- a number whose last digit is missing isn't spelled
pub cut_off : (n : ℕ) (s rest : List ℕ) → rest ≡ [] → scan 0 s ≡ scan n rest → (k : ℕ) (r : List ℕ) → k < 2 ^ 64 → s ≡ base128 k ++ r → ⊥
cut_off n s rest e f = no_number s (scan n rest) f (λ k r b g. let i = sym (ap (scan n) e) ∙ g in absurd (cc))

-- bytes that begin with a digit of zero aren't a number's spelling
pub zero_first : (s y : List ℕ) → s ≡ 128 ∷ y → (k : ℕ) (r : List ℕ) → k < 2 ^ 64 → s ≡ base128 k ++ r → ⊥
zero_first s y e k r b j = base_head k r y (sym j ∙ e)

-- the last digit was read
last_found : (n x : ℕ) (s rest : List ℕ) (y : List ℕ) → IsBytes s → rest ≡ x ∷ y → x < 128 → scan 0 s ≡ scan n rest →
    ((z : List ℕ) → s ≡ 128 ∷ z → ⊥) → s ≡ base128 (n * 128 + x) ++ y
last_found n x s rest y a e b f z = base_found s (n * 128 + x) y a z (f ∙ ap (scan n) e ∙ scan_last n x y b)

-- where the scan of s is: the number so far and the rest
pub record Scans (s : List ℕ) (n : ℕ) (rest : List ℕ) : Type 0 where
  pub same : scan 0 s ≡ scan n rest
  pub begun : n ≡ 0 → rest ≡ s
  pub no_zero : 0 < n → (y : List ℕ) → s ≡ 128 ∷ y → ⊥
  pub in_bytes : IsBytes rest

pub scans_start : (s : List ℕ) → IsBytes s → Scans s 0 s
scans_start s a = record { same = refl; begun = λ e. refl; no_zero = λ h. absurd (omega arith); in_bytes = a }

pub scans_more : (s : List ℕ) (n x : ℕ) (rest y : List ℕ) → Scans s n rest → rest ≡ x ∷ y → 128 ≤ x → (n ≡ 0 → x ≡ 128 → ⊥) → Scans s (n * 128 + (x - 128)) y
scans_more s n x rest y i e h f = record {
  same = i.same ∙ ap (scan n) e ∙ scan_more n x y h;
  begun = λ z. absurd (let a : n ≡ 0 = omega arith in let b : x ≡ 128 = omega arith in f a b);
  no_zero = λ g z j. elim (cases_lt 0 n) [ inl k ↦ i.no_zero k z j | inr k ↦ let a : n ≡ 0 = omega arith in f a (let b = i.begun a in cc) ];
  in_bytes = (let P : List ℕ → Type 0 = IsBytes in subst P e i.in_bytes).1;
}

-- the last digit was read
pub scans_found : (s : List ℕ) (n x : ℕ) (rest y : List ℕ) → IsBytes s → Scans s n rest → rest ≡ x ∷ y → x < 128 → s ≡ base128 (n * 128 + x) ++ y
scans_found s n x rest y a i e h = last_found n x s rest y a e h i.same
    (λ z j. elim (cases_lt 0 n) [ inl k ↦ i.no_zero k z j | inr k ↦ let c : n ≡ 0 = omega arith in let d = i.begun c in let g : x ≡ 128 = cc in omega arith ])

-- a number below 31 isn't one from there on
pub too_small : (s : List ℕ) (k : ℕ) (y : List ℕ) → s ≡ base128 k ++ y → k < 31 → (n : ℕ) (r : List ℕ) → 31 ≤ n → n < 2 ^ 64 → s ≡ base128 n ++ r → ⊥
too_small s k y e h n r l b f = let g : k ≡ n = (base128_exact k n y r (sym e ∙ f)).0 in omega (arith, h, l)
