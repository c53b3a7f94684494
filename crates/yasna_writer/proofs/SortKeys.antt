-- The number before a part: where those of two parts differ, they are as the parts do.
use Rattle.std.proofs.Common.{◌≡◌, ℕ, zero, suc, ◌+◌, ◌*◌, ◌^◌, ◌<◌, ◌≤◌, ◌⊎◌, inl, inr, List, [], ◌∷◌, get_or, refl, sym, ap, ◌∙◌, arith, mul-le-mul_right, mul_assoc}
use Rattle.std.proofs.Math.Nat.{pow-zero, pow-suc, pow-le-pow_right}
use Rattle.std.proofs.lemmas.Bool.{cases_order}
use Rattle.std.specs.Cmp.{nat_cmp_is}
use Rattle.std.specs.Ordering.{nat_cmp, ordering_then}
use Rattle.std.specs.declared.cmp.Ordering.TheVariants.{Less, Equal, Greater}
use Rattle.yasna_base.specs.Digits.{IsBytes}
use Rattle.yasna_base.specs.Order.{octets_cmp}
use Rattle.yasna_base.proofs.Digits.{all_bytes}
use Rattle.yasna_writer.specs.SortKey.{key_number, IsFirstEight}

byte_at : (n : ℕ) (b : List ℕ) → IsBytes b → get_or b n 0 < 256
byte_at n [] h = omega arith
byte_at zero (x ∷ b) h = h.0
byte_at (suc n) (x ∷ b) h = byte_at n b h.1

key_below : (n : ℕ) (b : List ℕ) → IsBytes b → key_number n b < 256 ^ n
key_below zero b h = omega (arith, pow-zero 256)
key_below (suc n) b h = omega (arith, key_below n b h, byte_at n b h, pow-suc 256 n)

-- a number of at most seven bytes has room for one more
pub key_fits : (n : ℕ) (b : List ℕ) → IsBytes b → n ≤ 7 → key_number n b < 2 ^ 56
key_fits n b h l = let p : 256 ^ n ≤ 256 ^ 7 = pow-le-pow_right (omega arith) l in omega (arith, key_below n b h, p)

key_nil : (n : ℕ) → key_number n [] ≡ 0
key_nil zero = refl
key_nil (suc n) = omega (arith, key_nil n)

-- the first byte counts as many times as there are numbers after it
key_cons : (n x : ℕ) (b : List ℕ) → key_number (suc n) (x ∷ b) ≡ x * 256 ^ n + key_number n b
key_cons zero x b = omega (arith, ap (λ p. x * p) (pow-zero 256))
key_cons (suc n) x b = omega (arith, key_cons n x b, ap (λ p. x * p) (pow-suc 256 n), mul_assoc x (256 ^ n) 256)

-- of two numbers with places below, the first place that differs determines which is less
first_place : (x f y g p : ℕ) → g < p → x * p + f < y * p + g → (x < y) ⊎ ((x ≡ y) × (f < g))
first_place x f y g p b h = elim (cases_order x y) [
  | inl e ↦ inr (e, omega (arith, h, ap (λ z. z * p) e))
  | inr (inl l) ↦ inl l
  | inr (inr l) ↦ absurd (let m : suc y * p ≤ x * p = mul-le-mul_right p l in omega (arith, m, b, h))
]

less : (x y : ℕ) → x < y → (nat_cmp x y ≡ Less) × (nat_cmp y x ≡ Greater)
less x y l = (sym (nat_cmp_is x y Less l), sym (nat_cmp_is y x Greater l))

-- how a goes by b, and b by a
abbrev ComparesBothWays : List ℕ → List ℕ → Type 0
ComparesBothWays a b = (octets_cmp a b ≡ Less) × (octets_cmp b a ≡ Greater)

by_place : (x y : ℕ) (xs ys : List ℕ) (P : Type 0) → (P → ComparesBothWays xs ys) → (x < y) ⊎ ((x ≡ y) × P) → ComparesBothWays (x ∷ xs) (y ∷ ys)
by_place x y xs ys P f (inl l) = (
  ap (λ r. ordering_then r (octets_cmp xs ys)) (less x y l).0,
  ap (λ r. ordering_then r (octets_cmp ys xs)) (less x y l).1,
)
by_place x y xs ys P f (inr (e, l)) = (
  ap (λ r. ordering_then r (octets_cmp xs ys)) (sym (nat_cmp_is x y Equal e)) ∙ (f l).0,
  ap (λ r. ordering_then r (octets_cmp ys xs)) (sym (nat_cmp_is y x Equal (sym e))) ∙ (f l).1,
)

decides : (n : ℕ) (a b : List ℕ) → IsBytes a → IsBytes b → key_number n a < key_number n b → ComparesBothWays a b
decides zero a b i j h = absurd (omega (arith, h))
decides (suc n) [] [] i j h = absurd (omega (arith, h))
decides (suc n) [] (y ∷ ys) i j h = (refl, refl)
decides (suc n) (x ∷ xs) [] i j h = absurd (omega (arith, h, key_nil (suc n)))
decides (suc n) (x ∷ xs) (y ∷ ys) i j h =
    by_place x y xs ys (key_number n xs < key_number n ys) (λ l. decides n xs ys i.1 j.1 l)
    (first_place x (key_number n xs) y (key_number n ys) (256 ^ n) (key_below n ys j.1) (omega (arith, h, key_cons n x xs, key_cons n y ys)))

-- parts go by their numbers where these differ
pub by_key : (f g : ℕ) (a b : List ℕ) → IsFirstEight f a → IsFirstEight g b → (f ≡ g → ⊥) → nat_cmp f g ≡ octets_cmp a b
by_key f g a b i j n = elim (cases_order f g) [
  | inl e ↦ absurd (n e)
  | inr (inl l) ↦ (less f g l).0 ∙ sym (decides 8 a b (all_bytes a i.in_bytes) (all_bytes b j.in_bytes) (omega (arith, l, i.spells, j.spells))).0
  | inr (inr l) ↦ (less g f l).1 ∙ sym (decides 8 b a (all_bytes b j.in_bytes) (all_bytes a i.in_bytes) (omega (arith, l, i.spells, j.spells))).1
]
