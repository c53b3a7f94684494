-- Two's complement, the fewest bytes of a number, and the laws of INTEGER in the types of numbers.
use Rattle.std.proofs.Common.{◌≡◌, ℕ, ◌+◌, ◌^◌, ◌<◌, ◌≤◌, List, [], ◌∷◌, length, get_or, refl, ap, ◌∙◌, sym, inl, inr, arith, mul-le-mul_right, zero}
use Rattle.std.proofs.Common.{suc, ◌*◌, add-mul, ◌-◌, ltb, ℤ, pos, negsuc, ◌-ℤ◌, lt-ltb, le-ltb, map, ltb-true, ltb-false}
use Rattle.std.proofs.Math.Nat.{pow-le-pow_right, pow-zero, pow-suc}
use Rattle.std.proofs.lemmas.Bool.{cases_lt, cond-true, cond-false, cases_eq, cond_both}
use Rattle.std.proofs.lemmas.Int.{ints}
use Rattle.std.proofs.lemmas.Int.Digits.{number_lt}
use Rattle.std.proofs.lemmas.List.{length-map}
use Rattle.std.specs.Int.{Width}
use Rattle.std.specs.Int.Digits.{number_from_digits}
use Rattle.std.specs.Prelude.{FitsSigned}
use Rattle.yasna_base.specs.declared.tag.Tag.{Tag}
use Rattle.yasna_base.specs.Canonical.{leaf_depth, IsWritten}
use Rattle.yasna_base.specs.Coding.{IsCoding, Any}
use Rattle.yasna_base.specs.Digits.{IsBytes, digits}
use Rattle.yasna_base.specs.Element.{Primitively}
use Rattle.yasna_base.specs.Identifier.{end_tag}
use Rattle.yasna_base.specs.Integer.{twos, distance, IsMinimal, IsInteger, IsNumber, IsSigned, IsUnsigned, EncodesSigned, EncodesUnsigned, unsigned_bytes, minimal_bytes, integer_encoding, integer_tag}
use Rattle.yasna_base.proofs.Canonical.{primitively_written}
use Rattle.yasna_base.proofs.Coding.{primitively}
use Rattle.yasna_base.proofs.Digits.{number_cons, digits_determined, digits_below, digits_some, digits_first, number_digits}
use Rattle.yasna_base.proofs.Identifier.{not_end}

-- Where the first bit isn't set, the number is read unsigned.
pub twos_positive : (x : ℕ) (xs : List ℕ) → x < 128 → twos (x ∷ xs) ≡ pos (number_from_digits 256 (x ∷ xs))
unfolding twos
twos_positive x xs h = cond-true (ltb x 128) _ _ (lt-ltb x 128 h)

-- Where it is set, the number is less by the count of all numbers of that many bytes.
pub twos_negative : (x : ℕ) (xs : List ℕ) → 128 ≤ x → twos (x ∷ xs) ≡ pos (number_from_digits 256 (x ∷ xs)) -ℤ pos (256 ^ length (x ∷ xs))
unfolding twos
twos_negative x xs h = cond-false (ltb x 128) _ _ (le-ltb x 128 h)

-- Without the first bit, bytes stay below half of what they could reach.
pub number_below : (x : ℕ) (xs : List ℕ) → IsBytes (x ∷ xs) → x < 128 → number_from_digits 256 (x ∷ xs) < 128 * 256 ^ length xs
number_below x xs b h =
    let k : x + 1 ≤ 128 = omega arith in
    omega (arith, number_cons 256 x xs, number_lt 256 xs b.1, add-mul x 1 (256 ^ length xs), mul-le-mul_right (256 ^ length xs) k)

-- With it, they reach that half.
pub number_above : (x : ℕ) (xs : List ℕ) → 128 ≤ x → 128 * 256 ^ length xs ≤ number_from_digits 256 (x ∷ xs)
number_above x xs h = omega (arith, number_cons 256 x xs, mul-le-mul_right (256 ^ length xs) h)

-- Minimal bytes of a number from 0 on are more than fit one byte less.
pub positive_above : (x y : ℕ) (ys : List ℕ) → IsMinimal (x ∷ y ∷ ys) → x < 128 → 128 * 256 ^ length ys ≤ number_from_digits 256 (x ∷ y ∷ ys)
positive_above x y ys m h =
    let e = number_cons 256 x (y ∷ ys) in
    let p = pow-suc 256 (length ys) in
    elim (cases_eq x 0) [
      | inl z ↦ omega (arith, e, number_above y ys (m.0 z))
      | inr z ↦ let k : 1 ≤ x = omega arith in omega (arith, e, p, mul-le-mul_right (256 ^ length (y ∷ ys)) k)
    ]

-- Minimal bytes of a number below 0 are less than fits one byte less.
pub negative_below : (x y : ℕ) (ys : List ℕ) → IsBytes (x ∷ y ∷ ys) → IsMinimal (x ∷ y ∷ ys) → 128 ≤ x →
    number_from_digits 256 (x ∷ y ∷ ys) < 256 ^ length (x ∷ y ∷ ys) - 128 * 256 ^ length ys
negative_below x y ys b m h =
    let e = number_cons 256 x (y ∷ ys) in
    let p = pow-suc 256 (length ys) in
    let q = pow-suc 256 (length (y ∷ ys)) in
    elim (cases_eq x 255) [
      | inl z ↦ omega (arith, e, p, q, ap (λ k. k * 256 ^ length (y ∷ ys)) z, number_below y ys b.1 (m.1 z))
      | inr z ↦ let k : x ≤ 254 = omega (arith, b.0) in omega (arith, e, p, q, number_lt 256 (y ∷ ys) b.1, mul-le-mul_right (256 ^ length (y ∷ ys)) k)
    ]

-- The number below 0, as what is left to the count of all numbers of that many bytes.
pub negative_is : (x : ℕ) (xs : List ℕ) → IsBytes (x ∷ xs) → 128 ≤ x → twos (x ∷ xs) ≡ negsuc (256 ^ length (x ∷ xs) - 1 - number_from_digits 256 (x ∷ xs))
negative_is x xs b h = twos_negative x xs h ∙ omega (arith, ints, number_lt 256 (x ∷ xs) b)

size_below : (x : ℕ) (xs : List ℕ) → IsBytes (x ∷ xs) → distance (twos (x ∷ xs)) < 128 * 256 ^ length xs
size_below x xs b = elim (cases_lt x 128) [
  | inl h ↦ rw (twos_positive x xs h) (number_below x xs b h)
  | inr h ↦ rw (negative_is x xs b h) (omega (arith, number_above x xs h, number_lt 256 (x ∷ xs) b, pow-suc 256 (length xs)))
]

size_above : (x y : ℕ) (ys : List ℕ) → IsBytes (x ∷ y ∷ ys) → IsMinimal (x ∷ y ∷ ys) → 128 * 256 ^ length ys ≤ distance (twos (x ∷ y ∷ ys))
size_above x y ys b m = elim (cases_lt x 128) [
  | inl h ↦ rw (twos_positive x (y ∷ ys) h) (positive_above x y ys m h)
  | inr h ↦ rw (negative_is x (y ∷ ys) b h) (omega (arith, negative_below x y ys b m h))
]

not_longer : (x y : ℕ) (xs ys : List ℕ) → IsBytes (x ∷ xs) → IsBytes (y ∷ ys) → IsMinimal (y ∷ ys) → twos (x ∷ xs) ≡ twos (y ∷ ys) → length ys ≤ length xs
not_longer x y xs [] b c m e = omega arith
not_longer x y xs (z ∷ zs) b c m e = elim (cases_lt (length xs) (length (z ∷ zs))) [
  | inl h ↦ let k : length xs ≤ length zs = omega arith in let p : 256 ^ length xs ≤ 256 ^ length zs = pow-le-pow_right (omega arith) k in
      absurd (omega (arith, ap distance e, size_below x xs b, size_above y z zs c m))
  | inr h ↦ h
]

-- Minimal bytes are told by their number.
pub twos_determined : (c d : List ℕ) → IsBytes c → IsBytes d → IsMinimal c → IsMinimal d → twos c ≡ twos d → c ≡ d
twos_determined [] d b b' m m' e = absurd m
twos_determined (x ∷ xs) [] b b' m m' e = absurd m'
twos_determined (x ∷ xs) (y ∷ ys) b b' m m' e =
    let l : length (x ∷ xs) ≡ length (y ∷ ys) = omega (arith, not_longer x y xs ys b b' m' e, not_longer y x ys xs b' b m (sym e)) in
    digits_determined 256 (x ∷ xs) (y ∷ ys) b b' l (elim (cases_lt x 128) [
      | inl h ↦ elim (cases_lt y 128) [
        | inl k ↦ let f = sym (twos_positive x xs h) ∙ e ∙ twos_positive y ys k in omega (arith, ints)
        | inr k ↦ let f = sym (twos_positive x xs h) ∙ e ∙ negative_is y ys b' k in absurd (cc)
      ]
      | inr h ↦ elim (cases_lt y 128) [
        | inl k ↦ let f = sym (negative_is x xs b h) ∙ e ∙ twos_positive y ys k in absurd (cc)
        | inr k ↦ let f = sym (twos_negative x xs h) ∙ e ∙ twos_negative y ys k in omega (arith, ints, ap (λ n. 256 ^ n) l)
      ]
    ])

-- minimal bytes whose first bit isn't set and whose number is n
abbrev IsUnsignedBytes : ℕ → List ℕ → Type 0
IsUnsignedBytes n [] = ⊥
IsUnsignedBytes n (x ∷ xs) = (x < 128) × IsBytes (x ∷ xs) × IsMinimal (x ∷ xs) × (number_from_digits 256 (x ∷ xs) ≡ n)

minimal_first : (x : ℕ) (xs : List ℕ) → 0 < x → x < 128 → IsMinimal (x ∷ xs)
minimal_first x [] p h = tt
minimal_first x (y ∷ ys) p h = (λ z. absurd (omega arith), λ z. absurd (omega arith))

unsigned_of : (n : ℕ) (ds : List ℕ) → IsBytes ds → 1 ≤ length ds → 0 < get_or ds 0 0 → number_from_digits 256 ds ≡ n → IsUnsignedBytes n (unsigned_bytes ds)
unsigned_of n [] b l p e = absurd (omega arith)
unsigned_of n (x ∷ xs) b l p e = cond_both (ltb x 128) _ _ (IsUnsignedBytes n)
    (λ t. let h = ltb-true x 128 t in (h, b, minimal_first x xs p h, e))
    (λ t. let h = ltb-false x 128 t in (omega arith, (omega arith, b), (λ _. h, λ z. absurd (omega arith)), omega (arith, number_cons 256 0 (x ∷ xs), e)))

unsigned_is : (n : ℕ) → IsUnsignedBytes n (unsigned_bytes (digits 256 n))
unfolding digits
unsigned_is zero = (omega arith, (omega arith, tt), tt, refl)
unsigned_is (suc n) =
    let two : 2 ≤ 256 = omega arith in
    unsigned_of (suc n) (digits 256 (suc n)) (digits_below 256 (suc n) two) (digits_some 256 (suc n) two)
    (digits_first 256 (suc n) two (omega arith)) (number_digits 256 (suc n) two)

positive_integer : (n : ℕ) (b : List ℕ) → IsUnsignedBytes n b → IsInteger (pos n) b
positive_integer n [] u = absurd u
positive_integer n (x ∷ xs) u = record { in_bytes = u.1; minimal = u.2; number = twos_positive x xs u.0 ∙ ap pos u.3 }

abbrev turned : List ℕ → List ℕ
turned b = map (λ d. 255 - d) b

bytes_turned : (b : List ℕ) → IsBytes (turned b)
bytes_turned [] = tt
bytes_turned (x ∷ xs) = (omega arith, bytes_turned xs)

minimal_turned : (x : ℕ) (xs : List ℕ) → x < 128 → IsMinimal (x ∷ xs) → IsMinimal (turned (x ∷ xs))
minimal_turned x [] h m = tt
minimal_turned x (y ∷ ys) h m = (λ z. absurd (omega arith), λ z. let k = m.0 (omega arith) in omega arith)

number_turned : (b : List ℕ) → IsBytes b → number_from_digits 256 (turned b) + number_from_digits 256 b + 1 ≡ 256 ^ length b
number_turned [] h = omega (arith, pow-zero 256)
number_turned (x ∷ xs) h =
    let s : (255 - x) + x ≡ 255 = omega (arith, h.0) in
    let c = number_cons 256 (255 - x) (turned xs) ∙ ap (λ k. (255 - x) * 256 ^ k + number_from_digits 256 (turned xs)) (length-map xs (λ d. 255 - d)) in
    omega (
      arith,
      c,
      number_cons 256 x xs,
      number_turned xs h.1,
      pow-suc 256 (length xs),
      sym (add-mul (255 - x) x (256 ^ length xs))
          ∙ ap (λ k. k * 256 ^ length xs) s,
    )

negative_integer : (n : ℕ) (b : List ℕ) → IsUnsignedBytes n b → IsInteger (negsuc n) (turned b)
negative_integer n [] u = absurd u
negative_integer n (x ∷ xs) u =
    let e = number_turned (x ∷ xs) u.1 in
    let l = ap (λ k. 256 ^ k) (length-map (x ∷ xs) (λ d. 255 - d)) in
    record {
      in_bytes = bytes_turned (x ∷ xs);
      minimal = minimal_turned x xs u.0 u.2;
      number = negative_is (255 - x) (turned xs) (bytes_turned (x ∷ xs)) (omega (arith, u.0)) ∙ ap negsuc (omega (arith, e, l, u.3));
    }

-- The minimal bytes of a number are contents that encode it.
pub minimal_is : (z : ℤ) → IsInteger z (minimal_bytes z)
unfolding minimal_bytes
minimal_is (pos n) = positive_integer n (unsigned_bytes (digits 256 n)) (unsigned_is n)
minimal_is (negsuc n) = negative_integer n (unsigned_bytes (digits 256 n)) (unsigned_is n)

-- The minimal bytes of a number are bytes.
pub minimal_in_bytes : (z : ℤ) → IsBytes (minimal_bytes z)
minimal_in_bytes z = (minimal_is z).in_bytes

-- The minimal bytes of a number are minimal.
pub minimal_minimal : (z : ℤ) → IsMinimal (minimal_bytes z)
minimal_minimal z = (minimal_is z).minimal

-- Read in two's complement they give the number back.
pub twos_minimal_bytes : (z : ℤ) → twos (minimal_bytes z) ≡ z
twos_minimal_bytes z = (minimal_is z).number

-- No other contents say the number.
pub minimal_only : (z : ℤ) (c : List ℕ) → IsInteger z c → c ≡ minimal_bytes z
minimal_only z c h = twos_determined c (minimal_bytes z) h.in_bytes (minimal_in_bytes z) h.minimal (minimal_minimal z) (h.number ∙ sym (twos_minimal_bytes z))

-- a type of numbers that represent integers one to one satisfies the laws of reading
pub number_coding : {A : Type 0} (f : A → ℤ) (InType : A → Type 0) → ((v w : A) → f v ≡ f w → v ≡ w) → (t : Tag) → (t ≡ end_tag → ⊥) →
    IsCoding (λ v w. v ≡ w) (Primitively (IsNumber f InType) t) (Any (Primitively (IsNumber f InType) t))
number_coding f InType one t not_end = primitively (IsNumber f InType) t not_end (λ m v w c x y. one v w (sym x.integer.number ∙ y.integer.number))

-- a type of numbers satisfies the laws of writing
pub number_written : {A : Type 0} (f : A → ℤ) (InType : A → Type 0) (t : Tag) → t.tag_number < 2 ^ 64 →
    IsWritten (λ v w. v ≡ w) (Primitively (IsNumber f InType) t) (λ m v. integer_encoding t m (f v)) leaf_depth InType
number_written f InType t range = primitively_written (IsNumber f InType) InType (λ v. minimal_bytes (f v)) t range
    (λ v can. minimal_in_bytes (f v))
    (λ m v can. record { integer = minimal_is (f v); in_type = can })
    (λ m v c h x. minimal_only (f v) c x.integer)
    (λ m v c x. x.in_type)

pub signed_under : (w : Width) (t : Tag) → (t ≡ end_tag → ⊥) →
    IsCoding (λ v u. v ≡ u) (Primitively (IsSigned w) t) (Any (Primitively (IsSigned w) t))
signed_under w t not_end = number_coding (λ z. z) (FitsSigned w) (λ v u e. e) t not_end

pub unsigned_under : (k : ℕ) (t : Tag) → (t ≡ end_tag → ⊥) →
    IsCoding (λ v u. v ≡ u) (Primitively (IsUnsigned k) t) (Any (Primitively (IsUnsigned k) t))
unsigned_under k t not_end = number_coding pos (λ u. u < 2 ^ k) (λ v u e. cc) t not_end

-- under INTEGER's tag
pub signed_coding : (w : Width) → IsCoding (λ v w. v ≡ w) (EncodesSigned w) (Any (EncodesSigned w))
signed_coding w = signed_under w integer_tag (not_end 2 (λ e. omega arith))

pub unsigned_coding : (k : ℕ) → IsCoding (λ v w. v ≡ w) (EncodesUnsigned k) (Any (EncodesUnsigned k))
unsigned_coding k = unsigned_under k integer_tag (not_end 2 (λ e. omega arith))

pub signed_written : (w : Width) → IsWritten (λ v w. v ≡ w) (EncodesSigned w) (λ m v. integer_encoding integer_tag m v) leaf_depth (FitsSigned w)
signed_written w = number_written (λ z. z) (FitsSigned w) integer_tag (omega arith)

pub unsigned_written : (k : ℕ) → IsWritten (λ v w. v ≡ w) (EncodesUnsigned k) (λ m v. integer_encoding integer_tag m (pos v)) leaf_depth (λ u. u < 2 ^ k)
unsigned_written k = number_written pos (λ u. u < 2 ^ k) integer_tag (omega arith)
