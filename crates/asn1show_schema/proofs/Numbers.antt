-- The numbers of contents (X.690, 8.3.3).
use Rattle.std.proofs.Common.{◌≡◌, ◌↔◌, inl, inr, ℕ, zero, suc, ◌+◌, ◌-◌, ◌*◌, ◌^◌, ◌<◌, ◌≤◌, add-mul, Bool, true, false, List, [], ◌∷◌, length, map, take, drop, get_or, Option, Some, None, ℤ, pos, negsuc, refl, sym, ap, ap₂, ◌∙◌, subst, arith}
use Rattle.std.proofs.Math.IntN.{pos-ne-negsuc}
use Rattle.std.proofs.Math.Nat.{pow-zero, pow-suc}
use Rattle.std.proofs.lemmas.Bool.{cases_lt}
use Rattle.std.specs.Int.Digits.{number_from_digits, number_from_digits_after}
use Rattle.std.proofs.lemmas.Grind.{take_at_read}
use Rattle.std.proofs.lemmas.Int.Digits.{number_push, number_after_append, number_after_ge}
use Rattle.std.proofs.lemmas.List.{map-append, length-map, take-append-drop}
use Rattle.yasna_base.specs.Digits.{IsBytes}
use Rattle.yasna_base.specs.Integer.{twos}
use Rattle.yasna_base.proofs.Digits.{number_cons}
use Rattle.yasna_base.proofs.Integer.{twos_positive, negative_is}
use Rattle.std.specs.Prelude.{IsTrue}
use Rattle.asn1show_schema.specs.Values.{universal_number, digit_of, spelled_number, signed, IsNumberOf, NumberAt, HasSignBit, HasNumber, truth, number}
use Rattle.asn1show_schema.specs.declared.schema.Number.{Number}
use Rattle.asn1show_schema.specs.declared.schema.ValueType.{ValueType}

-- one digit more
pub spelled_more : (b : Bool) (c : List ℕ) (i n : ℕ) → i < length c → n ≡ spelled_number b (take i c) →
    n * 256 + digit_of b (get_or c i 0) ≡ spelled_number b (take (i + 1) c)
spelled_more b c i n h e =
    let f = digit_of b in
    ap (λ k. k * 256 + f (get_or c i 0)) e ∙ sym (number_push 256 (map f (take i c)) (f (get_or c i 0))) ∙
    ap (number_from_digits 256) (sym (map-append f (take i c) (get_or c i 0 ∷ [])) ∙ ap (map f) (sym (take_at_read c i 0 h).1))

-- fewer digits spell no greater number
pub spelled_least : (b : Bool) (c : List ℕ) (i : ℕ) → spelled_number b (take i c) ≤ spelled_number b c
spelled_least b c i =
    let f = digit_of b in
    let whole : spelled_number b c ≡ number_from_digits_after 256 (spelled_number b (take i c)) (map f (drop i c)) =
    ap (λ z. number_from_digits 256 (map f z)) (sym (take-append-drop i c)) ∙
    ap (number_from_digits 256) (map-append f (take i c) (drop i c)) ∙ number_after_append 256 0 (map f (take i c)) (map f (drop i c)) in
    subst (λ z. spelled_number b (take i c) ≤ z) (sym whole) (number_after_ge 256 (spelled_number b (take i c)) (map f (drop i c)) (omega arith))

spelled_plain : (c : List ℕ) → map (digit_of false) c ≡ c
spelled_plain [] = refl
spelled_plain (x ∷ xs) = ap (λ z. x ∷ z) (spelled_plain xs)

-- a number and the one with all its bits turned
turned : (c : List ℕ) → IsBytes c → spelled_number true c + number_from_digits 256 c + 1 ≡ 256 ^ length c
turned [] h = omega (arith, pow-zero 256)
turned (x ∷ xs) h =
    let s : (255 - x) + x ≡ 255 = omega (arith, h.0) in
    let c = number_cons 256 (255 - x) (map (digit_of true) xs) ∙
    ap (λ k. (255 - x) * 256 ^ k + spelled_number true xs) (length-map xs (digit_of true)) in
    omega (
      arith,
      c,
      number_cons 256 x xs,
      turned xs h.1,
      pow-suc 256 (length xs),
      sym (add-mul (255 - x) x (256 ^ length xs))
          ∙ ap (λ k. k * 256 ^ length xs) s,
    )

not_above : (x : ℕ) → (128 ≤ x → ⊥) → x < 128
not_above x h = elim (cases_lt x 128) [
  | inl l ↦ l
  | inr l ↦ absurd (h l)
]

-- a number that isn't below zero
positive_number : (c : List ℕ) → (HasSignBit c → ⊥) → twos c ≡ pos (spelled_number false c)
unfolding twos
positive_number [] h = refl
positive_number (x ∷ xs) h = twos_positive x xs (not_above x h) ∙ ap (λ z. pos (number_from_digits 256 z)) (sym (spelled_plain (x ∷ xs)))

-- a number below zero
negative_number : (c : List ℕ) → IsBytes c → HasSignBit c → twos c ≡ negsuc (spelled_number true c)
negative_number [] h s = absurd s
negative_number (x ∷ xs) h s = negative_is x xs h s ∙ ap negsuc (omega (arith, turned (x ∷ xs) h))

false_not_true : false ≡ true → ⊥
false_not_true e = absurd (cc)

below_zero : (n m : ℕ) → m ≡ suc n → negsuc n ≡ signed true m
below_zero n m e = ap (signed true) (sym e)

-- the sign and the digits are those of a number
pub positive_found : (c : List ℕ) (n : ℕ) → (HasSignBit c → ⊥) → n ≡ spelled_number false c → NumberAt c (Some (record { is_negative = false; magnitude = n }))
positive_found c n h e = record { normal = λ f. absurd (false_not_true f); integer = positive_number c h ∙ ap pos (sym e) }

pub negative_found : (c : List ℕ) (n m : ℕ) → IsBytes c → HasSignBit c → n ≡ spelled_number true c → m ≡ n + 1 →
    NumberAt c (Some (record { is_negative = true; magnitude = m }))
negative_found c n m h s e f =
    record { normal = λ g. omega (arith, f); integer = negative_number c h s ∙ below_zero (spelled_number true c) m (omega (arith, e, f)) }

-- how far an integer is from zero
far : ℤ → ℕ
far (pos n) = n
far (negsuc n) = n + 1

far_signed : (b : Bool) (n : ℕ) → far (signed b n) ≡ n
unfolding far
far_signed false n = refl
far_signed true zero = refl
far_signed true (suc n) = omega arith

-- no number of 64 bits is that far from zero
pub positive_none : (c : List ℕ) → (HasSignBit c → ⊥) → 2 ^ 64 ≤ spelled_number false c → NumberAt c None
unfolding far
positive_none c h large = λ n small e.
    let f : far (twos c) ≡ spelled_number false c = ap far (positive_number c h) in
    omega (arith, f, ap far e, far_signed n.is_negative n.magnitude, small, large)

pub negative_none : (c : List ℕ) → IsBytes c → HasSignBit c → 2 ^ 64 ≤ spelled_number true c + 1 → NumberAt c None
unfolding far
negative_none c h s large = λ n small e.
    let f : far (twos c) ≡ spelled_number true c + 1 = ap far (negative_number c h s) in
    omega (arith, f, ap far e, far_signed n.is_negative n.magnitude, small, large)

-- numbers with equal integers are equal, if zero isn't negative
same_signed : (b d : Bool) (n k : ℕ) → (b ≡ true → 1 ≤ n) → (d ≡ true → 1 ≤ k) → signed b n ≡ signed d k → (b ≡ d) × (n ≡ k)
unfolding far
same_signed false false n k g h e = (refl, ap far e)
same_signed true true n k g h e = (refl, sym (far_signed true n) ∙ ap far e ∙ far_signed true k)
same_signed false true n zero g h e = absurd (omega (arith, h refl))
same_signed false true n (suc k) g h e = absurd (pos-ne-negsuc n k e)
same_signed true false zero k g h e = absurd (omega (arith, g refl))
same_signed true false (suc n) k g h e = absurd (pos-ne-negsuc k n (sym e))

same_number : (n k : Number) → n.is_negative ≡ k.is_negative → n.magnitude ≡ k.magnitude → n ≡ k
same_number n k e f = ap₂ (λ (b : Bool) m. record { is_negative = b; magnitude = m }) e f

-- contents are one number
pub number_once : (c : List ℕ) (n k : Number) → IsNumberOf c n → IsNumberOf c k → n ≡ k
number_once c n k x y =
    let same = same_signed n.is_negative k.is_negative n.magnitude k.magnitude x.normal y.normal (sym x.integer ∙ y.integer) in
    same_number n k same.0 same.1

some_same : (n k : Number) → Some n ≡ Some k → n ≡ k
some_same n k e = cc

none_some : (k : Number) → None ≡ Some k → ⊥
none_some k e = absurd (cc)

-- contents are a number exactly if it was found
pub found_exactly : (c : List ℕ) (found : Option Number) (k : Number) → k.magnitude < 2 ^ 64 → NumberAt c found → found ≡ Some k ↔ IsNumberOf c k
found_exactly c (Some n) k small x = (λ e. subst (IsNumberOf c) (some_same n k e) x, λ y. ap Some (number_once c n k x y))
found_exactly c None k small x = (λ e. absurd (none_some k e), λ y. absurd (x k small y.integer))

-- where a digit is one too many, so is the number
pub spelled_large : (b : Bool) (c : List ℕ) (i n : ℕ) → i < length c → n ≡ spelled_number b (take i c) → 2 ^ 64 ≤ n * 256 + digit_of b (get_or c i 0) →
    2 ^ 64 ≤ spelled_number b c
spelled_large b c i n h e large = omega (arith, large, spelled_more b c i n h e, spelled_least b c (i + 1))

-- what isn't less is as great
pub not_less : (n k : ℕ) → (n < k → ⊥) → k ≤ n
not_less n k h = elim (cases_lt n k) [
  | inl l ↦ absurd (h l)
  | inr l ↦ l
]

-- no bit says that the number is below zero
pub no_sign : (b : Bool) (c : List ℕ) → b ≡ false → IsTrue b ↔ HasSignBit c → HasSignBit c → ⊥
no_sign b c e h s = false_not_true (sym e ∙ h.1 s)

one_octet : (c : List ℕ) → 1 ≤ length c → length c < 2 → c ≡ get_or c 0 0 ∷ []
one_octet [] h l = absurd (omega (arith, h))
one_octet (x ∷ []) h l = refl
one_octet (x ∷ y ∷ c) h l = absurd (omega (arith, l))

-- the octet of a BOOLEAN has the number
pub truth_exactly : (value : ValueType) (c : List ℕ) (n : Number) → universal_number value ≡ 1 → 1 ≤ length c → length c < 2 →
    ((get_or c 0 0 ≡ 0) ↔ (n.magnitude ≡ 0)) ↔ HasNumber value c n
truth_exactly value c n u h l = (λ t. truth (get_or c 0 0) u (one_octet c h l) t, go)
  where
    go : HasNumber value c n → (get_or c 0 0 ≡ 0) ↔ (n.magnitude ≡ 0)
    go (truth octet v e t) = subst (λ x. (x ≡ 0) ↔ (n.magnitude ≡ 0)) (sym (ap (λ z. get_or z 0 0) e)) t
    go (number g x) = absurd (g u (omega (arith, h, l)))

-- other contents have the number that they are
pub number_exactly : (value : ValueType) (c : List ℕ) (n : Number) → (universal_number value ≡ 1 → length c ≡ 1 → ⊥) → IsNumberOf c n ↔ HasNumber value c n
number_exactly value c n g = (λ x. number g x, go)
  where
    go : HasNumber value c n → IsNumberOf c n
    go (truth octet v e t) = absurd (g v (ap length e))
    go (number f x) = x
