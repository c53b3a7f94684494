-- Lists in order that are merged: which is the joined list in order.
use Rattle.std.proofs.Common.{◌≡◌, List, [], ◌∷◌, ◌++◌, Bool, true, false, refl, sym, ap, ◌∙◌}
use Rattle.std.specs.Cmp.{IsStrictWeakOrder}
use Rattle.std.specs.Ordering.{is_lt}
use Rattle.std.specs.Prelude.{if◌then◌else◌}
use Rattle.std.specs.declared.cmp.Ordering.{Ordering}
use Rattle.yasna_base.specs.Order.{put_in, in_order}

-- x and the items xs, which f merges with others, merged with these: an item that is below x is before it
abbrev pub merge_from : {X : Type 0} → (X → X → Ordering) → X → List X → (List X → List X) → List X → List X
merge_from R x xs f [] = x ∷ xs
merge_from R x xs f (y ∷ ys) = if is_lt (R y x) then (y ∷ merge_from R x xs f ys) else (x ∷ f (y ∷ ys))

-- two lists merged: of items that tie, those of the first are first
abbrev pub merge : {X : Type 0} → (X → X → Ordering) → List X → List X → List X
merge R [] ys = ys
merge R (x ∷ xs) ys = merge_from R x xs (λ zs. merge R xs zs) ys

pub merge_nothing : {X : Type 0} (R : X → X → Ordering) (xs : List X) → merge R xs [] ≡ xs
merge_nothing R [] = refl
merge_nothing R (x ∷ xs) = refl

pub merge_second : {X : Type 0} (R : X → X → Ordering) (x y : X) (xs ys : List X) → is_lt (R y x) ≡ true → merge R (x ∷ xs) (y ∷ ys) ≡ y ∷ merge R (x ∷ xs) ys
merge_second R x y xs ys e = ap (λ b. if b then (y ∷ merge_from R x xs (λ zs. merge R xs zs) ys) else (x ∷ merge R xs (y ∷ ys))) e

pub merge_first : {X : Type 0} (R : X → X → Ordering) (x y : X) (xs ys : List X) → is_lt (R y x) ≡ false → merge R (x ∷ xs) (y ∷ ys) ≡ x ∷ merge R xs (y ∷ ys)
merge_first R x y xs ys e = ap (λ b. if b then (y ∷ merge_from R x xs (λ zs. merge R xs zs) ys) else (x ∷ merge R xs (y ∷ ys))) e

put_after : {X : Type 0} (R : X → X → Ordering) (x y : X) (ys : List X) → is_lt (R y x) ≡ true → put_in R x (y ∷ ys) ≡ y ∷ put_in R x ys
put_after R x y ys e = ap (λ b. if b then (y ∷ put_in R x ys) else (x ∷ (y ∷ ys))) e

put_before : {X : Type 0} (R : X → X → Ordering) (x y : X) (ys : List X) → is_lt (R y x) ≡ false → put_in R x (y ∷ ys) ≡ x ∷ (y ∷ ys)
put_before R x y ys e = ap (λ b. if b then (y ∷ put_in R x ys) else (x ∷ (y ∷ ys))) e

put_merge_none : {X : Type 0} (R : X → X → Ordering) (x : X) (ys : List X) → put_in R x ys ≡ merge R (x ∷ []) ys
put_merge_none R x [] = refl
put_merge_none R x (y ∷ ys) = step (is_lt (R y x)) (put_merge_none R x ys)
  where
    step : (b : Bool) → put_in R x ys ≡ merge R (x ∷ []) ys →
        (if b then (y ∷ put_in R x ys) else (x ∷ (y ∷ ys))) ≡ (if b then (y ∷ merge R (x ∷ []) ys) else (x ∷ (y ∷ ys)))
    step true e = ap (λ z. y ∷ z) e
    step false e = refl

module _ {X : Type 0} (R : X → X → Ordering) (o : IsStrictWeakOrder (λ (x y : X). is_lt (R x y))) where
  -- where x is put into merged lists that begin so
  put_merge_step : (x a y : X) (cs ys : List X) (below past mine : Bool) → is_lt (R y a) ≡ below → is_lt (R a x) ≡ past → is_lt (R y x) ≡ mine →
      put_in R x (merge R (a ∷ cs) ys) ≡ merge R (put_in R x (a ∷ cs)) ys → put_in R x (merge R cs (y ∷ ys)) ≡ merge R (put_in R x cs) (y ∷ ys) →
      put_in R x (merge R (a ∷ cs) (y ∷ ys)) ≡ merge R (put_in R x (a ∷ cs)) (y ∷ ys)
  put_merge_step x a y cs ys true true true e f g inner outer =
      ap (put_in R x) (merge_second R a y cs ys e) ∙ put_after R x y (merge R (a ∷ cs) ys) g ∙ ap (λ z. y ∷ z) inner ∙
      ap (λ z. y ∷ merge R z ys) (put_after R x a cs f) ∙ sym (merge_second R a y (put_in R x cs) ys e) ∙
      sym (ap (λ z. merge R z (y ∷ ys)) (put_after R x a cs f))
  put_merge_step x a y cs ys true true false e f g inner outer =
      let h : is_lt (R y a) ≡ false = o.chain y x a g (o.one_way a x f) in
      absurd (cc)
  put_merge_step x a y cs ys true false true e f g inner outer =
      ap (put_in R x) (merge_second R a y cs ys e) ∙ put_after R x y (merge R (a ∷ cs) ys) g ∙ ap (λ z. y ∷ z) inner ∙
      ap (λ z. y ∷ merge R z ys) (put_before R x a cs f) ∙ sym (merge_second R x y (a ∷ cs) ys g) ∙
      sym (ap (λ z. merge R z (y ∷ ys)) (put_before R x a cs f))
  put_merge_step x a y cs ys true false false e f g inner outer =
      ap (put_in R x) (merge_second R a y cs ys e) ∙ put_before R x y (merge R (a ∷ cs) ys) g ∙ sym (ap (λ z. x ∷ z) (merge_second R a y cs ys e)) ∙
      sym (merge_first R x y (a ∷ cs) ys g) ∙ sym (ap (λ z. merge R z (y ∷ ys)) (put_before R x a cs f))
  put_merge_step x a y cs ys false true mine e f g inner outer =
      ap (put_in R x) (merge_first R a y cs ys e) ∙ put_after R x a (merge R cs (y ∷ ys)) f ∙ ap (λ z. a ∷ z) outer ∙
      sym (merge_first R a y (put_in R x cs) ys e) ∙ sym (ap (λ z. merge R z (y ∷ ys)) (put_after R x a cs f))
  put_merge_step x a y cs ys false false mine e f g inner outer =
      ap (put_in R x) (merge_first R a y cs ys e) ∙ put_before R x a (merge R cs (y ∷ ys)) f ∙ sym (ap (λ z. x ∷ z) (merge_first R a y cs ys e)) ∙
      sym (merge_first R x y (a ∷ cs) ys (o.chain y a x e f)) ∙ sym (ap (λ z. merge R z (y ∷ ys)) (put_before R x a cs f))

  put_merge_some : (x a : X) (cs : List X) → ((ys : List X) → put_in R x (merge R cs ys) ≡ merge R (put_in R x cs) ys) → (ys : List X) →
      put_in R x (merge R (a ∷ cs) ys) ≡ merge R (put_in R x (a ∷ cs)) ys
  put_merge_some x a cs outer [] = sym (merge_nothing R (put_in R x (a ∷ cs)))
  put_merge_some x a cs outer (y ∷ ys) =
      put_merge_step x a y cs ys (is_lt (R y a)) (is_lt (R a x)) (is_lt (R y x)) refl refl refl (put_merge_some x a cs outer ys) (outer (y ∷ ys))

  -- an item is put into merged lists cs into the first of them
  put_merge : (x : X) (xs ys : List X) → put_in R x (merge R xs ys) ≡ merge R (put_in R x xs) ys
  put_merge x [] ys = put_merge_none R x ys
  put_merge x (a ∷ cs) ys = put_merge_some x a cs (λ zs. put_merge x cs zs) ys

  -- a joined list in order is the two lists in order, merged
  pub order_merge : (xs ys : List X) → in_order R (xs ++ ys) ≡ merge R (in_order R xs) (in_order R ys)
  order_merge [] ys = refl
  order_merge (x ∷ xs) ys = ap (put_in R x) (order_merge xs ys) ∙ put_merge x (in_order R xs) (in_order R ys)
