-- Lists put in order: there is one order of a list in which items that tie are as they were.
use Rattle.std.proofs.Common.{◌≡◌, ℕ, ◌+◌, ◌<◌, List, [], ◌∷◌, length, get_or, zero, suc, refl, ap, ap₂, sym, ◌∙◌, arith, subst, Bool, true, false, cond, not, ◌&&◌, map}
use Rattle.std.specs.Cmp.{IsStrictWeakOrder}
use Rattle.std.specs.declared.cmp.Ordering.{Ordering}
use Rattle.std.specs.List.{AllByRecursion, filter, Contains}
use Rattle.std.specs.List.Sorted.{IsSortedBy, IsStableBy, IsPermutation, ties}
use Rattle.std.specs.Ordering.{is_lt}
use Rattle.std.specs.Prelude.{if◌then◌else◌}
use Rattle.std.proofs.lemmas.List.Sorted.{sorted_far, sum_by-IsPermutation, Contains-permutation, IsPermutation-sym}
use Rattle.std.proofs.lemmas.List.Sums.{length-filter}
use Rattle.yasna_base.specs.Order.{put_in, in_order}

-- what holds of all items by one property holds of them by a wider one
all_wider : {X : Type 0} {P Q : X → Type 0} → ((x : X) → P x → Q x) → (xs : List X) → AllByRecursion P xs → AllByRecursion Q xs
all_wider f [] p = tt
all_wider f (x ∷ xs) p = (f x p.0, all_wider f xs p.1)

-- what holds of each place holds of all items
all_from : {X : Type 0} (P : X → Type 0) (xs : List X) → ((k : ℕ) (d : X) → k < length xs → P (get_or xs k d)) → AllByRecursion P xs
all_from P [] f = tt
all_from P (x ∷ xs) f = (f 0 x (omega arith), all_from P xs (λ k d h. f (suc k) d (omega (arith, h))))

pub both_false : (a b : Bool) → not a && not b ≡ true → (a ≡ false) × (b ≡ false)
both_false true b e = absurd (cc)
both_false false true e = absurd (cc)
both_false false false e = (refl, refl)

neither : (a b : Bool) → a ≡ false → b ≡ false → not a && not b ≡ true
neither a b e f = ap₂ (λ x y. not x && not y) e f

is_one : (b : Bool) → (b ≡ true → ⊥) → b ≡ false
is_one true f = absurd (f refl)
is_one false f = refl

-- x goes past y, where a test doesn't pass both
filter_past : {X : Type 0} (x y : X) (f g : List X) (a b : Bool) → (a ≡ true → b ≡ true → ⊥) → g ≡ cond a (x ∷ f) f →
    cond b (y ∷ g) g ≡ cond a (x ∷ cond b (y ∷ f) f) (cond b (y ∷ f) f)
filter_past x y f g true true h e = absurd (h refl refl)
filter_past x y f g true false h e = e
filter_past x y f g false true h e = ap (λ z. y ∷ z) e
filter_past x y f g false false h e = e

strip : {X : Type 0} (b : Bool) (x : X) (f g : List X) → cond b (x ∷ f) f ≡ cond b (x ∷ g) g → f ≡ g
strip true x f g e = cc
strip false x f g e = e

pub no_head : {X : Type 0} (x : X) (xs : List X) → [] ≡ x ∷ xs → ⊥
no_head x xs e = omega (arith, ap length e)

-- each item isn't below those before it
abbrev pub Rises : {X : Type 0} → (X → X → Bool) → List X → Type 0
Rises lt [] = Unit {0}
Rises lt (x ∷ xs) = AllByRecursion (λ y. lt y x ≡ false) xs × Rises lt xs

rises_pairs : {X : Type 0} (lt : X → X → Bool) (xs : List X) →
    ((i j : ℕ) (d : X) → i < j → j < length xs → lt (get_or xs j d) (get_or xs i d) ≡ false) → Rises lt xs
rises_pairs lt [] f = tt
rises_pairs lt (x ∷ xs) f = (
  all_from (λ y. lt y x ≡ false) xs (λ k d h. f 0 (suc k) d (omega arith) (omega (arith, h))),
  rises_pairs lt xs (λ i j d h k. f (suc i) (suc j) d (omega (arith, h)) (omega (arith, k))),
)

-- each item isn't below the one before it
pub sorted_rises : {X : Type 0} (lt : X → X → Bool) (xs : List X) → Rises lt xs → IsSortedBy lt xs
sorted_rises lt [] r k d low h = absurd (omega (arith, h))
sorted_rises lt (x ∷ []) r k d low h = absurd (omega (arith, h))
sorted_rises lt (x ∷ y ∷ ys) r zero d low h = r.0.0
sorted_rises lt (x ∷ y ∷ ys) r (suc k) d low h =
    let e : suc k + 1 ≡ suc (k + 1) = omega arith in
    ap (λ i. lt (get_or (x ∷ y ∷ ys) i d) (get_or (y ∷ ys) k d)) e ∙ sorted_rises lt (y ∷ ys) r.1 k d (omega arith) (omega (arith, h))

-- images rise by a test that fails wherever the items' own test fails
pub rises_map : {X Y : Type 0} (f : X → Y) (lt : X → X → Bool) (less : Y → Y → Bool) → ((x y : X) → lt x y ≡ false → less (f x) (f y) ≡ false) →
    (xs : List X) → Rises lt xs → Rises less (map f xs)
rises_map f lt less g [] r = tt
rises_map {X} f lt less g (x ∷ xs) r = (images xs r.0, rises_map f lt less g xs r.1)
  where
    images : (ys : List X) → AllByRecursion (λ y. lt y x ≡ false) ys → AllByRecursion (λ z. less z (f x) ≡ false) (map f ys)
    images [] a = tt
    images (y ∷ ys) a = (g y x a.0, images ys a.1)

-- what holds of each item that a list has
pub all_contained : {X : Type 0} (P : X → Type 0) (xs : List X) → ((x : X) → Contains xs x → P x) → AllByRecursion P xs
all_contained P [] f = tt
all_contained P (x ∷ xs) f = (f x (0, omega arith, refl), all_contained P xs (λ y c. f y (suc c.0, omega (arith, c.1), c.2)))

-- what holds of all items holds of each that a list has
pub all_at : {X : Type 0} (P : X → Type 0) (xs : List X) → AllByRecursion P xs → (x : X) → Contains xs x → P x
all_at {X} P xs a x c = at xs a c.0 c.1 c.2
  where
    at : (ys : List X) → AllByRecursion P ys → (k : ℕ) → k < length ys → get_or ys k x ≡ x → P x
    at [] b k h e = absurd (omega (arith, h))
    at (y ∷ ys) b zero h e = subst P e b.0
    at (y ∷ ys) b (suc k) h e = at ys b.1 k (omega (arith, h)) e

-- what holds of all items holds of them in any order
pub all_permuted : {X : Type 0} (P : X → Type 0) (xs ys : List X) → IsPermutation xs ys → AllByRecursion P xs → AllByRecursion P ys
all_permuted P xs ys h a = all_contained P ys (λ y c. all_at P xs a y (Contains-permutation ys xs y (IsPermutation-sym xs ys h) c))

all_filter : {X : Type 0} (p : X → Bool) (P : X → Type 0) (xs : List X) → AllByRecursion (λ x. p x ≡ true → P x) xs → AllByRecursion P (filter p xs)
all_filter p P [] a = tt
all_filter p P (x ∷ xs) a = step (p x) refl (all_filter p P xs a.1)
  where
    step : (b : Bool) → p x ≡ b → AllByRecursion P (filter p xs) → AllByRecursion P (cond b (x ∷ filter p xs) (filter p xs))
    step true e r = (a.0 e, r)
    step false e r = r

same_copies : {X : Type 0} (xs ys : List X) → length xs ≡ length ys → AllByRecursion (λ x. AllByRecursion (λ y. x ≡ y) ys) xs → xs ≡ ys
same_copies [] [] n a = refl
same_copies [] (y ∷ ys) n a = absurd (omega (arith, n))
same_copies (x ∷ xs) [] n a = absurd (omega (arith, n))
same_copies (x ∷ xs) (y ∷ ys) n a = ap₂ (λ z zs. z ∷ zs) a.0.0 (same_copies xs ys (omega (arith, n)) (all_wider (λ z q. q.1) xs a.1))

-- items that pass a test are the same in a list and its permutation, where all that pass are one
same_filter : {X : Type 0} (p : X → Bool) (xs ys : List X) → IsPermutation xs ys →
    ((x y : X) → Contains xs x → Contains xs y → p x ≡ true → p y ≡ true → x ≡ y) → filter p xs ≡ filter p ys
same_filter {X} p xs ys h one =
    let n : length (filter p xs) ≡ length (filter p ys) =
    length-filter p xs ∙ sym (sum_by-IsPermutation (λ x. cond (p x) 1 0) xs ys h) ∙ sym (length-filter p ys) in
    same_copies (filter p xs) (filter p ys) n
    (all_filter p (λ x. AllByRecursion (λ y. x ≡ y) (filter p ys)) xs
    (all_contained (λ x. p x ≡ true → AllByRecursion (λ y. x ≡ y) (filter p ys)) xs (λ x a e.
    all_filter p (λ y. x ≡ y) ys
    (all_contained (λ y. p y ≡ true → x ≡ y) ys (λ y b f. one x y a (Contains-permutation ys xs y (IsPermutation-sym xs ys h) b) e f)))))

module _ {X : Type 0} (R : X → X → Ordering) (o : IsStrictWeakOrder (λ (x y : X). is_lt (R x y))) where
  -- an item isn't below itself
  pub same_side : (x : X) → is_lt (R x x) ≡ false
  same_side x = is_one (is_lt (R x x)) (λ e. absurd (let f = o.one_way x x e in cc))

  ties_self : (x : X) → ties (λ x y. is_lt (R x y)) x x ≡ true
  ties_self x = neither (is_lt (R x x)) (is_lt (R x x)) (same_side x) (same_side x)

  all_put : (P : X → Type 0) (x : X) (ys : List X) → P x → AllByRecursion P ys → AllByRecursion P (put_in R x ys)
  all_put P x [] p q = (p, tt)
  all_put P x (y ∷ ys) p q = step (is_lt (R y x)) (all_put P x ys p q.1)
    where
      step : (b : Bool) → AllByRecursion P (put_in R x ys) → AllByRecursion P (if b then (y ∷ put_in R x ys) else (x ∷ (y ∷ ys)))
      step true a = (q.0, a)
      step false a = (p, q)

  rises_put : (x : X) (ys : List X) → Rises (λ x y. is_lt (R x y)) ys → Rises (λ x y. is_lt (R x y)) (put_in R x ys)
  rises_put x [] r = (tt, tt)
  rises_put x (y ∷ ys) r = step (is_lt (R y x)) refl (rises_put x ys r.1)
    where
      step : (b : Bool) → is_lt (R y x) ≡ b → Rises (λ x y. is_lt (R x y)) (put_in R x ys) →
          Rises (λ x y. is_lt (R x y)) (if b then (y ∷ put_in R x ys) else (x ∷ (y ∷ ys)))
      step true e s = (all_put (λ z. is_lt (R z y) ≡ false) x ys (o.one_way y x e) r.0, s)
      step false e s = ((e, all_wider (λ z h. o.chain z y x h e) ys r.0), r)

  -- a list in order rises
  pub rises_order : (xs : List X) → Rises (λ x y. is_lt (R x y)) (in_order R xs)
  rises_order [] = tt
  rises_order (x ∷ xs) = rises_put x (in_order R xs) (rises_order xs)

  -- what holds of all items holds of them in order
  pub all_order : (P : X → Type 0) (xs : List X) → AllByRecursion P xs → AllByRecursion P (in_order R xs)
  all_order P [] a = tt
  all_order P (x ∷ xs) a = all_put P x (in_order R xs) a.0 (all_order P xs a.1)

  all_put_back : (P : X → Type 0) (x : X) (ys : List X) → AllByRecursion P (put_in R x ys) → P x × AllByRecursion P ys
  all_put_back P x [] a = a
  all_put_back P x (y ∷ ys) a = step (is_lt (R y x)) (all_put_back P x ys) a
    where
      step : (b : Bool) → (AllByRecursion P (put_in R x ys) → P x × AllByRecursion P ys) →
          AllByRecursion P (if b then (y ∷ put_in R x ys) else (x ∷ (y ∷ ys))) → P x × AllByRecursion P (y ∷ ys)
      step true f p = let r = f p.1 in (r.0, (p.0, r.1))
      step false f p = p

  -- what holds of items in order holds of all items
  pub all_order_back : (P : X → Type 0) (xs : List X) → AllByRecursion P (in_order R xs) → AllByRecursion P xs
  all_order_back P [] a = tt
  all_order_back P (x ∷ xs) a = let r = all_put_back P x (in_order R xs) a in (r.0, all_order_back P xs r.1)

  stable_put : (z x : X) (ys : List X) → filter (ties (λ x y. is_lt (R x y)) z) (put_in R x ys) ≡ filter (ties (λ x y. is_lt (R x y)) z) (x ∷ ys)
  stable_put z x [] = refl
  stable_put z x (y ∷ ys) = step (is_lt (R y x)) refl (stable_put z x ys)
    where
      step : (b : Bool) → is_lt (R y x) ≡ b →
          filter (ties (λ x y. is_lt (R x y)) z) (put_in R x ys) ≡ filter (ties (λ x y. is_lt (R x y)) z) (x ∷ ys) →
          filter (ties (λ x y. is_lt (R x y)) z) (if b then (y ∷ put_in R x ys) else (x ∷ (y ∷ ys))) ≡ filter (ties (λ x y. is_lt (R x y)) z) (x ∷ (y ∷ ys))
      step true e i = filter_past x y (filter (ties (λ x y. is_lt (R x y)) z) ys) (filter (ties (λ x y. is_lt (R x y)) z) (put_in R x ys))
          (ties (λ x y. is_lt (R x y)) z x) (ties (λ x y. is_lt (R x y)) z y)
          (λ f g. let h = both_false (is_lt (R z x)) (is_lt (R x z)) f in
          let k = both_false (is_lt (R z y)) (is_lt (R y z)) g in
          let l = o.chain y z x k.1 h.0 in
          absurd (cc))
          i
      step false e i = refl

  stable_order : (z : X) (xs : List X) → filter (ties (λ x y. is_lt (R x y)) z) (in_order R xs) ≡ filter (ties (λ x y. is_lt (R x y)) z) xs
  stable_order z [] = refl
  stable_order z (x ∷ xs) = stable_put z x (in_order R xs) ∙
      ap (λ f. cond (ties (λ x y. is_lt (R x y)) z x) (x ∷ f) f) (stable_order z xs)

  none_ties : (y : X) (zs : List X) → AllByRecursion (λ z. ties (λ x y. is_lt (R x y)) y z ≡ false) zs →
      filter (ties (λ x y. is_lt (R x y)) y) zs ≡ []
  none_ties y [] a = refl
  none_ties y (z ∷ zs) a =
      ap (λ b. cond b (z ∷ filter (ties (λ x y. is_lt (R x y)) y) zs) (filter (ties (λ x y. is_lt (R x y)) y) zs)) a.0 ∙ none_ties y zs a.1

  -- what ties with y isn't omitted: so y isn't below the first of those
  head_reaches : (y z : X) (ys zs : List X) → Rises (λ x y. is_lt (R x y)) (z ∷ zs) →
      filter (ties (λ x y. is_lt (R x y)) y) (y ∷ ys) ≡ filter (ties (λ x y. is_lt (R x y)) y) (z ∷ zs) → is_lt (R y z) ≡ false
  head_reaches y z ys zs r e = is_one (is_lt (R y z)) (λ below.
      let unambiguous = λ (w : X) (h : is_lt (R w z) ≡ false). is_one (ties (λ x y. is_lt (R x y)) y w) (λ t.
      let k = both_false (is_lt (R y w)) (is_lt (R w y)) t in
      let l = o.chain y w z k.0 h in
      absurd (cc)) in
      let none = none_ties y (z ∷ zs) (unambiguous z (same_side z), all_wider unambiguous zs r.0) in
      let some = ap (λ b. cond b (y ∷ filter (ties (λ x y. is_lt (R x y)) y) ys) (filter (ties (λ x y. is_lt (R x y)) y) ys)) (ties_self y) in
      no_head y (filter (ties (λ x y. is_lt (R x y)) y) ys) (sym none ∙ sym e ∙ some))

  -- two lists that rise are one, where those that tie with any item are the same in both
  one_rising : (ys zs : List X) → Rises (λ x y. is_lt (R x y)) ys → Rises (λ x y. is_lt (R x y)) zs →
      ((x : X) → filter (ties (λ x y. is_lt (R x y)) x) ys ≡ filter (ties (λ x y. is_lt (R x y)) x) zs) → ys ≡ zs
  one_rising [] [] r s e = refl
  one_rising [] (z ∷ zs) r s e =
      let some = ap (λ b. cond b (z ∷ filter (ties (λ x y. is_lt (R x y)) z) zs) (filter (ties (λ x y. is_lt (R x y)) z) zs)) (ties_self z) in
      absurd (no_head z (filter (ties (λ x y. is_lt (R x y)) z) zs) (e z ∙ some))
  one_rising (y ∷ ys) [] r s e =
      let some = ap (λ b. cond b (y ∷ filter (ties (λ x y. is_lt (R x y)) y) ys) (filter (ties (λ x y. is_lt (R x y)) y) ys)) (ties_self y) in
      absurd (no_head y (filter (ties (λ x y. is_lt (R x y)) y) ys) (sym (e y) ∙ some))
  one_rising (y ∷ ys) (z ∷ zs) r s e =
      let f = filter (ties (λ x y. is_lt (R x y)) y) in
      let a = head_reaches y z ys zs s (e y) in
      let b = head_reaches z y zs ys r (sym (e z)) in
      let left = ap (λ b. cond b (y ∷ f ys) (f ys)) (ties_self y) in
      let right = ap (λ b. cond b (z ∷ f zs) (f zs)) (neither (is_lt (R y z)) (is_lt (R z y)) a b) in
      let heads : y ∷ f ys ≡ z ∷ f zs = sym left ∙ e y ∙ right in
      let same : y ≡ z = cc in
      ap₂ (λ w ws. w ∷ ws) same (one_rising ys zs r.1 s.1 (λ x.
      strip (ties (λ x y. is_lt (R x y)) x z) z (filter (ties (λ x y. is_lt (R x y)) x) ys) (filter (ties (λ x y. is_lt (R x y)) x) zs)
      (sym (ap (λ w. cond (ties (λ x y. is_lt (R x y)) x w) (w ∷ filter (ties (λ x y. is_lt (R x y)) x) ys) (filter (ties (λ x y. is_lt (R x y)) x) ys))
      same) ∙ e x)))

  pub rises_sorted : (xs : List X) → IsSortedBy (λ x y. is_lt (R x y)) xs → Rises (λ x y. is_lt (R x y)) xs
  rises_sorted xs up = rises_pairs (λ x y. is_lt (R x y)) xs (λ i j d h k. sorted_far (λ x y. is_lt (R x y)) o xs up i j d (omega (arith, h)) k)

  -- what a stable sort makes of a list
  pub in_order_is : (xs ys : List X) → IsSortedBy (λ x y. is_lt (R x y)) ys → IsStableBy (λ x y. is_lt (R x y)) xs ys → ys ≡ in_order R xs
  in_order_is xs ys up stable =
      one_rising ys (in_order R xs) (rises_sorted ys up) (rises_order xs) (λ x. stable x ∙ sym (stable_order x xs))

  -- a list in order is sorted
  pub sorted_order : (xs : List X) → IsSortedBy (λ x y. is_lt (R x y)) (in_order R xs)
  sorted_order xs = sorted_rises (λ x y. is_lt (R x y)) (in_order R xs) (rises_order xs)

  -- a list that rises is in order
  pub in_order_rising : (xs : List X) → Rises (λ x y. is_lt (R x y)) xs → in_order R xs ≡ xs
  in_order_rising xs r = sym (in_order_is xs xs (sorted_rises (λ x y. is_lt (R x y)) xs r) (λ x. refl))

  ties_join : (z x y : X) → ties (λ x y. is_lt (R x y)) z x ≡ true → ties (λ x y. is_lt (R x y)) z y ≡ true → ties (λ x y. is_lt (R x y)) x y ≡ true
  ties_join z x y e f =
      let h = both_false (is_lt (R z x)) (is_lt (R x z)) e in
      let k = both_false (is_lt (R z y)) (is_lt (R y z)) f in
      neither (is_lt (R x y)) (is_lt (R y x)) (o.chain x z y h.1 k.0) (o.chain y z x k.1 h.0)

  -- the order of a list doesn't depend on how its items were, where those that tie are one
  pub in_order_permuted : (xs ys : List X) → IsPermutation xs ys →
      ((x y : X) → Contains xs x → Contains xs y → ties (λ x y. is_lt (R x y)) x y ≡ true → x ≡ y) → in_order R xs ≡ in_order R ys
  in_order_permuted xs ys p one =
      one_rising (in_order R xs) (in_order R ys) (rises_order xs) (rises_order ys) (λ z.
      stable_order z xs ∙
      same_filter (ties (λ x y. is_lt (R x y)) z) xs ys p (λ x y a b e f. one x y a b (ties_join z x y e f)) ∙
      sym (stable_order z ys))

module _ {X Y : Type 0} (f : X → Y) (R : Y → Y → Ordering) where
  put_in_map : (x : X) (ys : List X) → map f (put_in (λ v w. R (f v) (f w)) x ys) ≡ put_in R (f x) (map f ys)
  put_in_map x [] = refl
  put_in_map x (y ∷ ys) = step (is_lt (R (f y) (f x))) (put_in_map x ys)
    where
      step : (b : Bool) → map f (put_in (λ v w. R (f v) (f w)) x ys) ≡ put_in R (f x) (map f ys) →
          map f (if b then (y ∷ put_in (λ v w. R (f v) (f w)) x ys) else (x ∷ (y ∷ ys))) ≡
          (if b then (f y ∷ put_in R (f x) (map f ys)) else (f x ∷ (f y ∷ map f ys)))
      step true i = ap (λ zs. f y ∷ zs) i
      step false i = refl

  -- items put in order by what represents them
  pub in_order_map : (xs : List X) → map f (in_order (λ v w. R (f v) (f w)) xs) ≡ in_order R (map f xs)
  in_order_map [] = refl
  in_order_map (x ∷ xs) = put_in_map x (in_order (λ v w. R (f v) (f w)) xs) ∙ ap (put_in R (f x)) (in_order_map xs)
