-- Identifiers of one shape, and what is between two of them.
use Rattle.std.proofs.Common.{◌≡◌, ◌⊎◌, inl, inr, ℕ, suc, ◌+◌, ◌*◌, ◌^◌, ◌<◌, ◌≤◌, true, false, List, [], ◌∷◌, ◌++◌, length, refl, sym, ap, ap₂, ◌∙◌, subst, append-nil, arith, mul-le-mul_right, add-mul}
use Rattle.std.specs.Cmp.{nat_cmp_is}
use Rattle.std.specs.Ordering.{nat_cmp, is_lt, ordering_then, ordering_reverse}
use Rattle.std.specs.Int.Digits.{number_from_digits, AllBelowBase}
use Rattle.std.specs.declared.cmp.Ordering.{Ordering}
use Rattle.std.specs.declared.cmp.Ordering.TheVariants.{Less, Equal, Greater}
use Rattle.std.proofs.lemmas.Bool.{cases_lt, cases_order}
use Rattle.std.proofs.lemmas.Cmp.{nat_list_cmp_total, ranked}
use Rattle.std.proofs.lemmas.Int.Digits.{number_lt}
use Rattle.yasna_base.specs.Digits.{digits, marked, base128}
use Rattle.yasna_base.specs.Identifier.{class_number, bit_number, leading_byte, identifier}
use Rattle.yasna_base.specs.Order.{octets_cmp, tag_cmp}
use Rattle.yasna_base.specs.declared.tag.PCBit.{PCBit}
use Rattle.yasna_base.specs.declared.tag.PCBit.TheVariants.{Primitive, Constructed}
use Rattle.yasna_base.specs.declared.tag.Tag.{Tag}
use Rattle.yasna_base.specs.declared.tag.TagClass.{TagClass}
use Rattle.yasna_base.proofs.Digits.{digits_below, digits_some, digits_length, number_digits, number_cons, base128_some}
use Rattle.yasna_base.proofs.Identifier.{class_same, identifier_short, identifier_long, identifier_some}

-- the first octets that differ decide, whatever follows
pub compares : (a b r s : List ℕ) → ((v w : List ℕ) → a ++ v ≡ b ++ w → ⊥) → octets_cmp (a ++ r) (b ++ s) ≡ octets_cmp a b
compares [] b r s f = absurd (f b [] (sym (append-nil b)))
compares (x ∷ a) [] r s f = absurd (f [] (x ∷ a) (append-nil (x ∷ a)))
compares (x ∷ a) (y ∷ b) r s f =
    step (nat_cmp x y) refl (λ same. compares a b r s (λ v w g. f v w (ap₂ (λ z zs. z ∷ zs) same g)))
  where
    step : (o : Ordering) → o ≡ nat_cmp x y → (x ≡ y → octets_cmp (a ++ r) (b ++ s) ≡ octets_cmp a b) →
        ordering_then (nat_cmp x y) (octets_cmp (a ++ r) (b ++ s)) ≡ ordering_then (nat_cmp x y) (octets_cmp a b)
    step Less e g = ap (λ o. ordering_then o (octets_cmp (a ++ r) (b ++ s))) (sym e) ∙ ap (λ o. ordering_then o (octets_cmp a b)) e
    step Equal e g = ap (ordering_then (nat_cmp x y)) (g (ranked x y Equal e))
    step Greater e g = ap (λ o. ordering_then o (octets_cmp (a ++ r) (b ++ s))) (sym e) ∙ ap (λ o. ordering_then o (octets_cmp a b)) e

less_is : (o : Ordering) → is_lt o ≡ true → o ≡ Less
less_is Less e = refl
less_is Equal e = let f : false ≡ true = e in absurd (cc)
less_is Greater e = let f : false ≡ true = e in absurd (cc)

abbrev pub IsBelow : List ℕ → List ℕ → Type 0
IsBelow a b = is_lt (octets_cmp a b) ≡ true

-- octets are ordered
pub below_chain : (a b c : List ℕ) → IsBelow a b → IsBelow b c → IsBelow a c
below_chain a b c h k = ap is_lt (nat_list_cmp_total.trans a b c (less_is (octets_cmp a b) h) (less_is (octets_cmp b c) k))

pub below_once : (a b : List ℕ) → IsBelow a b → IsBelow b a → ⊥
below_once a b h k =
    let one : octets_cmp a b ≡ Less = less_is (octets_cmp a b) h in
    let two : octets_cmp b a ≡ Less = less_is (octets_cmp b a) k in
    let back = nat_list_cmp_total.antisymm a b in
    let e : Less ≡ Greater = sym one ∙ back ∙ ap ordering_reverse two in
    absurd (cc)

-- the first octet decides
first_below : (x y : ℕ) (a b : List ℕ) → x < y → IsBelow (x ∷ a) (y ∷ b)
first_below x y a b h = ap (λ o. is_lt (ordering_then o (octets_cmp a b))) (sym (nat_cmp_is x y Less h))

-- or those after it
rest_below : (x y : ℕ) (a b : List ℕ) → x ≡ y → IsBelow a b → IsBelow (x ∷ a) (y ∷ b)
rest_below x y a b e h = ap (λ o. is_lt (ordering_then o (octets_cmp a b))) (sym (nat_cmp_is x y Equal e)) ∙ h

-- as many digits are in the order of their numbers
tail_lower : (d e B k l : ℕ) → k < B → l < B → d * B + k < e * B + l → (d < e) ⊎ ((d ≡ e) × (k < l))
tail_lower d e B k l h i j = elim (cases_order d e) [
  | inl same ↦ inr (same, let f : d * B ≡ e * B = ap (λ z. z * B) same in omega (arith, j, f))
  | inr other ↦ elim other [
    | inl lower ↦ inl lower
    | inr higher ↦ absurd (let f : (e + 1) * B ≤ d * B = mul-le-mul_right B (omega (arith, higher)) in
        let g : (e + 1) * B ≡ e * B + 1 * B = add-mul e 1 B in
        omega (arith, f, g, h, i, j))
  ]
]

digits_order : (ds es : List ℕ) → AllBelowBase 128 ds → AllBelowBase 128 es → length ds ≡ length es → number_from_digits 128 ds < number_from_digits 128 es →
    IsBelow (marked ds) (marked es)
digits_order [] [] p q l h = absurd (omega (arith, h))
digits_order [] (e ∷ es) p q l h = absurd (omega (arith, l))
digits_order (d ∷ ds) [] p q l h = absurd (omega (arith, l))
digits_order (d ∷ ds) (e ∷ es) p q l h =
    let k : length ds ≡ length es = omega (arith, l) in
    let B = 128 ^ length ds in
    let below : number_from_digits 128 es < B = subst (λ i. number_from_digits 128 es < 128 ^ i) (sym k) (number_lt 128 es q.1) in
    let second : number_from_digits 128 (e ∷ es) ≡ e * B + number_from_digits 128 es =
    number_cons 128 e es ∙ ap (λ i. e * 128 ^ i + number_from_digits 128 es) (sym k) in
    let lower : d * B + number_from_digits 128 ds < e * B + number_from_digits 128 es = omega (arith, h, number_cons 128 d ds, second) in
    elim (tail_lower d e B (number_from_digits 128 ds) (number_from_digits 128 es) (number_lt 128 ds p.1) below lower) [
      | inl f ↦ head ds es k f
      | inr f ↦ tail ds es k f.0 (digits_order ds es p.1 q.1 k f.1)
    ]
  where
    head : (ds es : List ℕ) → length ds ≡ length es → d < e → IsBelow (marked (d ∷ ds)) (marked (e ∷ es))
    head [] [] k f = first_below d e [] [] f
    head [] (y ∷ es) k f = absurd (omega (arith, k))
    head (x ∷ ds) [] k f = absurd (omega (arith, k))
    head (x ∷ ds) (y ∷ es) k f = first_below (128 + d) (128 + e) (marked (x ∷ ds)) (marked (y ∷ es)) (omega (arith, f))

    tail : (ds es : List ℕ) → length ds ≡ length es → d ≡ e → IsBelow (marked ds) (marked es) → IsBelow (marked (d ∷ ds)) (marked (e ∷ es))
    tail [] [] k f g = rest_below d e [] [] f g
    tail [] (y ∷ es) k f g = absurd (omega (arith, k))
    tail (x ∷ ds) [] k f g = absurd (omega (arith, k))
    tail (x ∷ ds) (y ∷ es) k f g = rest_below (128 + d) (128 + e) (marked (x ∷ ds)) (marked (y ∷ es)) (omega (arith, f)) g

marked_length : (ds : List ℕ) → length (marked ds) ≡ length ds
marked_length [] = refl
marked_length (d ∷ []) = refl
marked_length (d ∷ e ∷ ds) = ap suc (marked_length (e ∷ ds))

base128_length : (k : ℕ) → length (base128 k) ≡ length (digits 128 k)
unfolding base128
base128_length k = marked_length (digits 128 k)

base128_order : (j k : ℕ) → length (base128 j) ≡ length (base128 k) → j < k → IsBelow (base128 j) (base128 k)
unfolding base128
base128_order j k l h =
    let two : 2 ≤ 128 = omega arith in
    digits_order (digits 128 j) (digits 128 k) (digits_below 128 j two) (digits_below 128 k two)
    (sym (marked_length (digits 128 j)) ∙ l ∙ marked_length (digits 128 k)) (omega (arith, h, number_digits 128 j two, number_digits 128 k two))

base128_longer : (j k : ℕ) → j ≤ k → length (base128 j) ≤ length (base128 k)
base128_longer j k h =
    let two : 2 ≤ 128 = omega arith in
    let n = length (digits 128 k) in
    let below : k < 128 ^ n = subst (λ z. z < 128 ^ n) (number_digits 128 k two) (number_lt 128 (digits 128 k) (digits_below 128 k two)) in
    omega (arith, base128_length j, base128_length k, digits_length 128 j n two (digits_some 128 k two) (omega (arith, h, below)))

-- an identifier begins with its leading byte
record Leads (t : Tag) (p : PCBit) : Type 0 where
  low : ℕ
  rest : List ℕ
  below : low ≤ 31
  joined : identifier t p ≡ leading_byte t p low ∷ rest

leads : (t : Tag) (p : PCBit) → Leads t p
leads t p = elim (cases_lt t.tag_number 31) [
  | inl h ↦ record { low = t.tag_number; rest = []; below = omega (arith, h); joined = identifier_short t p h }
  | inr h ↦ record { low = 31; rest = base128 t.tag_number; below = omega arith; joined = identifier_long t p (omega (arith, h)) }
]

-- a greater number has as many octets or more
pub size_up : (t u : Tag) (p q : PCBit) → t.tag_number ≤ u.tag_number → length (identifier t p) ≤ length (identifier u q)
size_up t u p q h = elim (cases_lt t.tag_number 31) [
  | inl k ↦ omega (arith, ap length (identifier_short t p k), identifier_some u q)
  | inr k ↦ omega (arith, ap length (identifier_long t p (omega (arith, k))), ap length (identifier_long u q (omega (arith, k, h))), base128_longer t.tag_number u.tag_number h)
]

-- a number that isn't below another
not_below : (j k : ℕ) → (j < k → ⊥) → k ≤ j
not_below j k f = elim (cases_lt j k) [ inl h ↦ absurd (f h) | inr h ↦ omega (arith, h) ]

-- identifiers of one shape are in the order of their numbers
pub shape_order : (t u : Tag) (p : PCBit) → class_number t.tag_class ≡ class_number u.tag_class → length (identifier t p) ≡ length (identifier u p) →
    t.tag_number < u.tag_number → IsBelow (identifier t p) (identifier u p)
shape_order t u p e l h = elim (cases_lt u.tag_number 31) [
  | inl k ↦
      let short : t.tag_number < 31 = omega (arith, k, h) in
      subst (λ z. IsBelow z (identifier u p)) (sym (identifier_short t p short))
      (subst (λ z. IsBelow (leading_byte t p t.tag_number ∷ []) z) (sym (identifier_short u p k))
      (first_below (leading_byte t p t.tag_number) (leading_byte u p u.tag_number) [] [] (omega (arith, e, h))))
  | inr k ↦ elim (cases_lt t.tag_number 31) [
    | inl i ↦ absurd (omega (arith, l, ap length (identifier_short t p i), ap length (identifier_long u p (omega (arith, k))), base128_some u.tag_number))
    | inr i ↦
        let first = identifier_long t p (omega (arith, i)) in
        let second = identifier_long u p (omega (arith, k)) in
        subst (λ z. IsBelow z (identifier u p)) (sym first)
        (subst (λ z. IsBelow (leading_byte t p 31 ∷ base128 t.tag_number) z) (sym second)
        (rest_below (leading_byte t p 31) (leading_byte u p 31) (base128 t.tag_number) (base128 u.tag_number) (omega (arith, e))
        (base128_order t.tag_number u.tag_number (omega (arith, l, ap length first, ap length second)) h)))
  ]
]

bit_number_below : (p : PCBit) → bit_number p ≤ 1
bit_number_below Primitive = omega arith
bit_number_below Constructed = omega arith

leading_order : (t u : Tag) (p q : PCBit) → ((i j : ℕ) → i ≤ 31 → j ≤ 31 → leading_byte t p i < leading_byte u q j) → IsBelow (identifier t p) (identifier u q)
leading_order t u p q f =
    let x = leads t p in
    let y = leads u q in
    subst (λ z. IsBelow z (identifier u q)) (sym x.joined)
    (subst (λ z. IsBelow (leading_byte t p x.low ∷ x.rest) z) (sym y.joined)
    (first_below (leading_byte t p x.low) (leading_byte u q y.low) x.rest y.rest (f x.low y.low x.below y.below)))

-- the class is first
pub class_order : (t u : Tag) (p q : PCBit) → class_number t.tag_class < class_number u.tag_class → IsBelow (identifier t p) (identifier u q)
class_order t u p q h =
    let m = bit_number_below p in
    let n = bit_number_below q in
    leading_order t u p q (λ i j k l. omega (arith, h, m, n, k, l))

-- and then the bit
bit_order : (t u : Tag) → class_number t.tag_class ≡ class_number u.tag_class → IsBelow (identifier t Primitive) (identifier u Constructed)
bit_order t u e = leading_order t u Primitive Constructed (λ i j k l. omega (arith, e, k, l))

-- between two with one bit is that bit
pub bit_between : (a b t : Tag) (p q : PCBit) → class_number a.tag_class ≡ class_number t.tag_class → class_number b.tag_class ≡ class_number t.tag_class →
    (IsBelow (identifier t q) (identifier a p) → ⊥) → (IsBelow (identifier b p) (identifier t q) → ⊥) → q ≡ p
bit_between a b t Primitive Primitive e f g h = refl
bit_between a b t Primitive Constructed e f g h = absurd (h (bit_order b t f))
bit_between a b t Constructed Primitive e f g h = absurd (g (bit_order t a (sym e)))
bit_between a b t Constructed Constructed e f g h = refl

-- tags are ordered by class, and then by number
pub tag_up : (t u : Tag) → is_lt (tag_cmp t u) ≡ true →
    (class_number t.tag_class < class_number u.tag_class) ⊎ ((class_number t.tag_class ≡ class_number u.tag_class) × (t.tag_number < u.tag_number))
tag_up t u h = by_class (nat_cmp (class_number t.tag_class) (class_number u.tag_class)) refl h
  where
    by_number : (o : Ordering) → o ≡ nat_cmp t.tag_number u.tag_number → is_lt o ≡ true → t.tag_number < u.tag_number
    by_number Less e f = ranked t.tag_number u.tag_number Less e
    by_number Equal e f = let g : false ≡ true = f in absurd (cc)
    by_number Greater e f = let g : false ≡ true = f in absurd (cc)

    by_class : (o : Ordering) → o ≡ nat_cmp (class_number t.tag_class) (class_number u.tag_class) → is_lt (ordering_then o (nat_cmp t.tag_number u.tag_number)) ≡ true →
        (class_number t.tag_class < class_number u.tag_class) ⊎ ((class_number t.tag_class ≡ class_number u.tag_class) × (t.tag_number < u.tag_number))
    by_class Less e f = inl (ranked (class_number t.tag_class) (class_number u.tag_class) Less e)
    by_class Equal e f = inr (ranked (class_number t.tag_class) (class_number u.tag_class) Equal e, by_number (nat_cmp t.tag_number u.tag_number) refl f)
    by_class Greater e f = let g : false ≡ true = f in absurd (cc)

pub number_up : (t u : Tag) → class_number t.tag_class ≡ class_number u.tag_class → t.tag_number < u.tag_number → is_lt (tag_cmp t u) ≡ true
number_up t u e h =
    ap₂ (λ a b. is_lt (ordering_then a b)) (sym (nat_cmp_is (class_number t.tag_class) (class_number u.tag_class) Equal e)) (sym (nat_cmp_is t.tag_number u.tag_number Less h))

-- a tag isn't before itself
pub tag_not_below : (t u : Tag) → t ≡ u → is_lt (tag_cmp t u) ≡ true → ⊥
tag_not_below t u e h = elim (tag_up t u h) [
  | inl f ↦ omega (arith, f, ap (λ (z : Tag). class_number z.tag_class) e)
  | inr f ↦ omega (arith, f.1, ap (λ (z : Tag). z.tag_number) e)
]

-- neither of two identifiers is before the other by tags and after it by octets
pub record Agreeing (t : Tag) (q : PCBit) (u : Tag) (p : PCBit) : Type 0 where
  pub up : is_lt (tag_cmp t u) ≡ true → IsBelow (identifier u p) (identifier t q) → ⊥
  pub down : is_lt (tag_cmp u t) ≡ true → IsBelow (identifier t q) (identifier u p) → ⊥

-- an identifier of the bit p between two of one shape, by its number
pub record IsBetween (a x b : Tag) (p : PCBit) : Type 0 where
  pub first_class : class_number a.tag_class ≡ class_number x.tag_class
  pub last_class : class_number b.tag_class ≡ class_number x.tag_class
  pub first_size : length (identifier a p) ≡ length (identifier x p)
  pub last_size : length (identifier b p) ≡ length (identifier x p)
  pub first_number : a.tag_number ≤ x.tag_number
  pub last_number : x.tag_number ≤ b.tag_number

same_tag : (t u : Tag) → class_number t.tag_class ≡ class_number u.tag_class → t.tag_number ≡ u.tag_number → t ≡ u
same_tag t u e f = ap₂ (λ (c : TagClass) n. record { tag_class = c; tag_number = n }) (class_same t.tag_class u.tag_class e) f

-- no greater number of a shape is before a lower one
below_first : (a x : Tag) (p : PCBit) (s : List ℕ) → class_number a.tag_class ≡ class_number x.tag_class → length (identifier a p) ≡ length (identifier x p) →
    a.tag_number ≤ x.tag_number → IsBelow (identifier x p) s → IsBelow (identifier a p) s
below_first a x p s e l h k = elim (cases_lt a.tag_number x.tag_number) [
  | inl f ↦ below_chain (identifier a p) (identifier x p) s (shape_order a x p e l f) k
  | inr f ↦ subst (λ z. IsBelow (identifier z p) s) (sym (same_tag a x e (omega (arith, f, h)))) k
]

below_last : (x b : Tag) (p : PCBit) (s : List ℕ) → class_number b.tag_class ≡ class_number x.tag_class → length (identifier b p) ≡ length (identifier x p) →
    x.tag_number ≤ b.tag_number → IsBelow s (identifier x p) → IsBelow s (identifier b p)
below_last x b p s e l h k = elim (cases_lt x.tag_number b.tag_number) [
  | inl f ↦ below_chain s (identifier x p) (identifier b p) k (shape_order x b p (sym e) (sym l) f)
  | inr f ↦ subst (λ z. IsBelow s (identifier z p)) (sym (same_tag b x e (omega (arith, f, h)))) k
]

-- in one class, and with a number and octets between two of a shape, an identifier has this shape
joins : (t a b : Tag) (q p : PCBit) (n : ℕ) → class_number a.tag_class ≡ class_number t.tag_class → class_number b.tag_class ≡ class_number t.tag_class →
    length (identifier a p) ≡ n → length (identifier b p) ≡ n → a.tag_number ≤ t.tag_number → t.tag_number ≤ b.tag_number →
    (IsBelow (identifier t q) (identifier a p) → ⊥) → (IsBelow (identifier b p) (identifier t q) → ⊥) → (q ≡ p) × (length (identifier t p) ≡ n)
joins t a b q p n e f k l g h i j = (bit_between a b t p q e f i j, omega (arith, k, l, size_up a t p p g, size_up t b p p h))

-- what agrees with two identifiers of a shape isn't before one between them by tags and after it by octets
not_crossed_up : (t a x b : Tag) (q p : PCBit) → IsBetween a x b p → Agreeing t q a p → Agreeing t q b p →
    is_lt (tag_cmp t x) ≡ true → IsBelow (identifier x p) (identifier t q) → ⊥
not_crossed_up t a x b q p y f g h k = elim (tag_up t x h) [
  | inl lower ↦ below_once (identifier t q) (identifier x p) (class_order t x q p lower) k
  | inr one ↦
      let ea : class_number a.tag_class ≡ class_number t.tag_class = omega (arith, y.first_class, one.0) in
      let eb : class_number b.tag_class ≡ class_number t.tag_class = omega (arith, y.last_class, one.0) in
      let first : IsBelow (identifier a p) (identifier t q) = below_first a x p (identifier t q) y.first_class y.first_size y.first_number k in
      let not_lower : t.tag_number < a.tag_number → ⊥ = λ z. f.up (number_up t a (sym ea) z) first in
      let low : a.tag_number ≤ t.tag_number = not_below t.tag_number a.tag_number not_lower in
      let last = g.up (number_up t b (sym eb) (omega (arith, one.1, y.last_number))) in
      let z = joins t a b q p (length (identifier x p)) ea eb y.first_size y.last_size low (omega (arith, one.1, y.last_number))
      (λ w. below_once (identifier t q) (identifier a p) w first) last in
      let bits = subst (λ z. IsBelow (identifier x p) (identifier t z)) z.0 k in
      below_once (identifier t p) (identifier x p) (shape_order t x p one.0 z.1 one.1) bits
]

-- nor after it by tags and before it by octets
not_crossed_down : (t a x b : Tag) (q p : PCBit) → IsBetween a x b p → Agreeing t q a p → Agreeing t q b p →
    is_lt (tag_cmp x t) ≡ true → IsBelow (identifier t q) (identifier x p) → ⊥
not_crossed_down t a x b q p y f g h k = elim (tag_up x t h) [
  | inl lower ↦ below_once (identifier x p) (identifier t q) (class_order x t p q lower) k
  | inr one ↦
      let ea : class_number a.tag_class ≡ class_number t.tag_class = omega (arith, y.first_class, one.0) in
      let eb : class_number b.tag_class ≡ class_number t.tag_class = omega (arith, y.last_class, one.0) in
      let last : IsBelow (identifier t q) (identifier b p) = below_last x b p (identifier t q) y.last_class y.last_size y.last_number k in
      let not_higher : b.tag_number < t.tag_number → ⊥ = λ z. g.down (number_up b t eb z) last in
      let high : t.tag_number ≤ b.tag_number = not_below b.tag_number t.tag_number not_higher in
      let first = f.down (number_up a t ea (omega (arith, one.1, y.first_number))) in
      let z = joins t a b q p (length (identifier x p)) ea eb y.first_size y.last_size (omega (arith, one.1, y.first_number)) high
      first (λ w. below_once (identifier b p) (identifier t q) w last) in
      let bits = subst (λ z. IsBelow (identifier t z) (identifier x p)) z.0 k in
      below_once (identifier x p) (identifier t p) (shape_order x t p one.0 (sym z.1) one.1) bits
]

-- what agrees with two identifiers of a shape agrees with those between them
pub agrees_between : (t a x b : Tag) (q p : PCBit) → IsBetween a x b p → Agreeing t q a p → Agreeing t q b p → Agreeing t q x p
agrees_between t a x b q p y f g = record {
  up = λ h k. not_crossed_up t a x b q p y f g h k;
  down = λ h k. not_crossed_down t a x b q p y f g h k;
}
