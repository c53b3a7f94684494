use Rattle.std.proofs.Common.{◌≡◌, ℕ, List, [], ◌∷◌, length, refl, sym, ap, ap₂, ◌∙◌, nat_eq, true, false, arith}
use Rattle.std.proofs.lemmas.Bool.{eqb-true}
use Rattle.std.proofs.lemmas.Map.Lookups.{exact_unsigned}
use Rattle.std.specs.Cmp.{nat_cmp_is}
use Rattle.std.specs.Ordering.{nat_cmp, ordering_then}
use Rattle.std.specs.declared.cmp.Ordering.{Ordering}
use Rattle.std.specs.declared.cmp.Ordering.TheVariants.{Less, Equal, Greater}
use Rattle.yasna_base.specs.Order.{octets_cmp}
use Rattle.yasna_base.proofs.Lists.{empty_is}
use Rattle.yasna_base.proofs.bytes.order.compare_octets.Goals as goal

decides : (o r : Ordering) → (o ≡ Equal → ⊥) → o ≡ ordering_then o r
decides Less r h = refl
decides Equal r h = absurd (h refl)
decides Greater r h = refl

-- bytes that differ decide
differs : (x y : ℕ) (xs ys : List ℕ) → (x ≡ y → ⊥) → nat_cmp x y ≡ octets_cmp (x ∷ xs) (y ∷ ys)
differs x y xs ys h = decides (nat_cmp x y) (octets_cmp xs ys) (λ e. h (exact_unsigned x y e))

-- equal ones leave it to those after
passes : (x y : ℕ) (xs ys : List ℕ) → x ≡ y → octets_cmp xs ys ≡ octets_cmp (x ∷ xs) (y ∷ ys)
passes x y xs ys e = ap (λ o. ordering_then o (octets_cmp xs ys)) (nat_cmp_is x y Equal e)

-- bytes go after none
goes_after : (x : ℕ) (xs ys : List ℕ) → ys ≡ [] → Greater ≡ octets_cmp (x ∷ xs) ys
goes_after x xs ys e = ap (octets_cmp (x ∷ xs)) (sym e)

-- at the end of the first bytes, the second ones end there too or go after
both_end : (xs ys : List ℕ) → xs ≡ [] → true ≡ nat_eq (length ys) 0 → Equal ≡ octets_cmp xs ys
both_end xs [] e h = ap (λ z. octets_cmp z []) (sym e)
both_end xs (y ∷ ys) e h = absurd (omega (arith, eqb-true (length (y ∷ ys)) 0 (sym h)))

one_ends : (xs ys : List ℕ) → xs ≡ [] → false ≡ nat_eq (length ys) 0 → Less ≡ octets_cmp xs ys
one_ends xs [] e h = absurd (cc)
one_ends xs (y ∷ ys) e h = ap (λ z. octets_cmp z (y ∷ ys)) (sym e)

pub loop-x-init : goal.loop-x-init
loop-x-init c = refl

pub returns-in_default-split_first : goal.returns-in_default-split_first
returns-in_default-split_first c =
    goes_after c.in-Some.x.now c.in-Some.xs.now c.loop-x.right.now (empty_is c.loop-x.right.now (c.in_default-split_first.ensures {u = tt}).cases)
    ∙ sym (ap (λ z. octets_cmp z c.loop-x.right.now) (c.in-Some.ensures {u = tt}).cases.0) ∙ c.loop-x.invariant

pub returns-then-x-y : goal.returns-then-x-y
returns-then-x-y c =
    c.cmp.ensures ∙ differs c.in-Some.x.now c.in-Some-split_first.y.now c.in-Some.xs.now c.in-Some-split_first.ys.now c.if-x-y.true
    ∙ sym (ap₂ octets_cmp (c.in-Some.ensures {u = tt}).cases.0 (c.in-Some-split_first.ensures {u = tt}).cases.0) ∙ c.loop-x.invariant

pub loop-x-preserved : goal.loop-x-preserved
loop-x-preserved c =
    passes c.in-Some.x.now c.in-Some-split_first.y.now c.in-Some.xs.now c.in-Some-split_first.ys.now c.if-x-y.false
    ∙ sym (ap₂ octets_cmp (c.in-Some.ensures {u = tt}).cases.0 (c.in-Some-split_first.ensures {u = tt}).cases.0) ∙ c.loop-x.invariant

pub returns-then-is_empty : goal.returns-then-is_empty
returns-then-is_empty c =
    both_end c.loop-x.left.now c.loop-x.right.now (empty_is c.loop-x.left.now (c.in_default.ensures {u = tt}).cases) (c.if-is_empty.ensures {u = tt}) ∙
    c.loop-x.invariant

pub returns-else-is_empty : goal.returns-else-is_empty
returns-else-is_empty c =
    one_ends c.loop-x.left.now c.loop-x.right.now (empty_is c.loop-x.left.now (c.in_default.ensures {u = tt}).cases) (c.if-is_empty.ensures {u = tt}) ∙
    c.loop-x.invariant
