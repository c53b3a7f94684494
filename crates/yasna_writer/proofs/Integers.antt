-- The fewest bytes of a number in two's complement, from any bytes of it and its sign, or from more bytes than it takes.
use Rattle.std.proofs.Common.{◌≡◌, ℕ, zero, suc, ◌+◌, ◌-◌, ◌*◌, ◌/◌, ◌^◌, ◌<◌, ◌≤◌, List, [], ◌∷◌, ◌++◌, length, length-drop, drop, cond, ℤ, pos}
use Rattle.std.proofs.Common.{negsuc, inl, inr, refl, sym, ap, ◌∙◌, subst, arith, lt-ltb, le-ltb, mul-le-mul_right}
use Rattle.std.specs.Prelude.{Bool, true, false}
use Rattle.std.proofs.Math.Nat.{pow-suc, pow-le-pow_right}
use lib.Count.{count_leading_zeros}
use Rattle.std.proofs.lemmas.Nat.{leading_length, pow-add}
use mir.Val.{SFits}
use Rattle.std.specs.Int.{w8, w64, cast_unsigned, to_be_bytes}
use Rattle.std.specs.Int.Digits.{number_from_digits}
use Rattle.std.proofs.lemmas.Int.Digits.{number_lt}
use Rattle.std.proofs.lemmas.Bool.{cases_eq, cases_lt, lt-leb, le-leb}
use Rattle.std.proofs.lemmas.Int.{ints}
use Rattle.yasna_base.specs.Digits.{IsBytes}
use Rattle.yasna_base.specs.Integer.{twos, IsMinimal, minimal_bytes, IsInteger, distance}
use Rattle.yasna_base.proofs.Digits.{number_cons}
use Rattle.yasna_base.proofs.Integer.{twos_positive, twos_negative, negative_is, number_above, number_below, minimal_only}
use Rattle.yasna_base.specs.BigInteger.{trim_leading, signed_number, signed_or_zero, big_integer}
use Rattle.yasna_writer.specs.Integer.{sign_byte, sign_octet}
use Rattle.yasna_writer.proofs.BigEndian.{be_bytes, be_number}
use Rattle.yasna_writer.proofs.Without.{without_cases, without_bytes, without_first}

-- a sign byte in front changes nothing
pub sign_byte_more : (positive : Bool) (b : List ℕ) → signed_number positive (sign_byte positive ∷ b) ≡ signed_number positive b
sign_byte_more true b = let e = number_cons 256 0 b in ap pos (omega arith)
sign_byte_more false b = let e = number_cons 256 255 b in let p = pow-suc 256 (length b) in omega (arith, ints)

-- nor does it where it is omitted
pub sign_without : (positive : Bool) (b : List ℕ) → signed_number positive (trim_leading (sign_byte positive) b) ≡ signed_number positive b
sign_without positive [] = refl
sign_without positive (y ∷ ys) = elim (without_cases (sign_byte positive) y ys) [
  | inl p ↦ ap (signed_number positive) p.1 ∙ sign_without positive ys ∙ sym (sign_byte_more positive ys) ∙ ap (λ z. signed_number positive (z ∷ ys)) (sym p.0)
  | inr p ↦ ap (signed_number positive) p.1
]

-- bytes with the sign byte where it is needed
abbrev signed : Bool → List ℕ → List ℕ
signed positive c = sign_octet positive c ++ c

small_minimal : (x : ℕ) (xs : List ℕ) → (x ≡ 0 → ⊥) → (x ≡ 255 → ⊥) → IsMinimal (x ∷ xs)
small_minimal x [] f g = tt
small_minimal x (y ∷ ys) f g = (λ e. absurd (f e), λ e. absurd (g e))

positive_bytes : (x : ℕ) (xs : List ℕ) → IsBytes (x ∷ xs) → (x ≡ 0 → ⊥) → IsInteger (signed_number true (x ∷ xs)) (signed true (x ∷ xs))
positive_bytes x xs h f = elim (cases_lt x 128) [
  | inl l ↦
      let whole = ap (λ t. cond t (0 ∷ []) [] ++ (x ∷ xs)) (lt-leb 128 x l) in
      subst (IsInteger (signed_number true (x ∷ xs))) (sym whole)
      (record { in_bytes = h; minimal = small_minimal x xs f (λ e. omega arith); number = twos_positive x xs l })
  | inr g ↦
      let whole = ap (λ t. cond t (0 ∷ []) [] ++ (x ∷ xs)) (le-leb 128 x g) in
      subst (IsInteger (signed_number true (x ∷ xs))) (sym whole)
      (record {
        in_bytes = (omega arith, h);
        minimal = (λ e. g, λ e. absurd (omega (arith, e)));
        number = twos_positive 0 (x ∷ xs) (omega arith) ∙ sign_byte_more true (x ∷ xs);
      })
]

negative_bytes : (x : ℕ) (xs : List ℕ) → IsBytes (x ∷ xs) → (x ≡ 255 → ⊥) → IsInteger (signed_number false (x ∷ xs)) (signed false (x ∷ xs))
negative_bytes x xs h f = elim (cases_lt x 128) [
  | inl l ↦
      let whole = ap (λ t. cond t (255 ∷ []) [] ++ (x ∷ xs)) (lt-ltb x 128 l) in
      subst (IsInteger (signed_number false (x ∷ xs))) (sym whole)
      (record {
        in_bytes = (omega arith, h);
        minimal = (λ e. absurd (omega (arith, e)), λ e. l);
        number = twos_negative 255 (x ∷ xs) (omega arith) ∙ sign_byte_more false (x ∷ xs);
      })
  | inr g ↦
      let whole = ap (λ t. cond t (255 ∷ []) [] ++ (x ∷ xs)) (le-ltb x 128 g) in
      subst (IsInteger (signed_number false (x ∷ xs))) (sym whole)
      (record { in_bytes = h; minimal = small_minimal x xs (λ e. omega arith) f; number = twos_negative x xs g })
]

signed_integer :
    (positive : Bool) (c : List ℕ) → IsBytes c → ((y : ℕ) (ys : List ℕ) → c ≡ y ∷ ys → y ≡ sign_byte positive → ⊥)
    → IsInteger (signed_number positive c) (signed positive c)
signed_integer true [] h f = record { in_bytes = (omega arith, tt); minimal = tt; number = twos_positive 0 [] (omega arith) }
signed_integer false [] h f = record { in_bytes = (omega arith, tt); minimal = tt; number = twos_negative 255 [] (omega arith) }
signed_integer true (x ∷ xs) h f = positive_bytes x xs h (f x xs refl)
signed_integer false (x ∷ xs) h f = negative_bytes x xs h (f x xs refl)

-- bytes without sign bytes in front, and one where it is needed, are the fewest
pub signed_bytes :
    (positive : Bool) (b : List ℕ) → IsBytes b
    → sign_octet positive (trim_leading (sign_byte positive) b) ++ trim_leading (sign_byte positive) b ≡ minimal_bytes (signed_number positive b)
signed_bytes positive b h =
    let c = trim_leading (sign_byte positive) b in
    minimal_only (signed_number positive c) (signed positive c)
    (signed_integer positive c (without_bytes (sign_byte positive) b h) (λ y ys. without_first (sign_byte positive) y b ys))
    ∙ ap minimal_bytes (sign_without positive b)

signed_some : (positive : Bool) (c : List ℕ) → 0 < length c → signed_number positive c ≡ signed_or_zero positive c
signed_some positive [] h = absurd (omega arith)
signed_some positive (x ∷ xs) h = refl

signed_none : (positive : Bool) (c : List ℕ) → length c ≡ 0 → signed_number true c ≡ signed_or_zero positive c
signed_none positive [] h = refl
signed_none positive (x ∷ xs) h = absurd (omega arith)

-- the number of bytes where some are after the zeros
pub big_some : (positive : Bool) (b : List ℕ) → 0 < length (trim_leading 0 b) → signed_number positive (trim_leading 0 b) ≡ big_integer b positive
unfolding big_integer
big_some positive b h = signed_some positive (trim_leading 0 b) h

-- the number of bytes that are all zeros
pub big_none : (positive : Bool) (b : List ℕ) → length (trim_leading 0 b) ≡ 0 → signed_number true (trim_leading 0 b) ≡ big_integer b positive
unfolding big_integer
big_none positive b h = signed_none positive (trim_leading 0 b) h

-- the first byte of two or more says nothing where the number fits one byte less
narrow_one : (x y : ℕ) (ys : List ℕ) → IsBytes (x ∷ y ∷ ys) → distance (twos (x ∷ y ∷ ys)) < 128 * 256 ^ length ys → twos (y ∷ ys) ≡ twos (x ∷ y ∷ ys)
narrow_one x y ys b d =
    let p = 256 ^ length ys in
    let e = number_cons 256 x (y ∷ ys) in
    let q = pow-suc 256 (length ys) in
    let r = pow-suc 256 (length (y ∷ ys)) in
    elim (cases_lt x 128) [
      | inl h ↦
          let n : number_from_digits 256 (x ∷ y ∷ ys) < 128 * p = rw (sym (ap distance (twos_positive x (y ∷ ys) h))) d in
          elim (cases_eq x 0) [
            | inl z ↦
                let same : number_from_digits 256 (x ∷ y ∷ ys) ≡ number_from_digits 256 (y ∷ ys) = omega (arith, e, ap (λ k. k * 256 ^ length (y ∷ ys)) z) in
                elim (cases_lt y 128) [
                  | inl k ↦ twos_positive y ys k ∙ ap pos (sym same) ∙ sym (twos_positive x (y ∷ ys) h)
                  | inr k ↦ absurd (omega (arith, n, same, number_above y ys k))
                ]
            | inr z ↦ let k : 1 ≤ x = omega arith in absurd (omega (arith, n, e, q, mul-le-mul_right (256 ^ length (y ∷ ys)) k))
          ]
      | inr h ↦
          let n : 256 ^ length (x ∷ y ∷ ys) - 1 - number_from_digits 256 (x ∷ y ∷ ys) < 128 * p = rw (sym (ap distance (negative_is x (y ∷ ys) b h))) d in
          let fits = number_lt 256 (y ∷ ys) b.1 in
          elim (cases_eq x 255) [
            | inl z ↦
                let more : 256 ^ length (x ∷ y ∷ ys) - 1 - number_from_digits 256 (x ∷ y ∷ ys)
                ≡ 256 ^ length (y ∷ ys) - 1 - number_from_digits 256 (y ∷ ys) = omega (arith, e, r, ap (λ k. k * 256 ^ length (y ∷ ys)) z) in
                elim (cases_lt y 128) [
                  | inl k ↦ absurd (omega (arith, n, more, q, fits, number_below y ys b.1 k))
                  | inr k ↦ negative_is y ys b.1 k ∙ ap negsuc (sym more) ∙ sym (negative_is x (y ∷ ys) b h)
                ]
            | inr z ↦ let k : x ≤ 254 = omega (arith, b.0) in absurd (omega (arith, n, e, r, q, fits, mul-le-mul_right (256 ^ length (y ∷ ys)) k))
          ]
    ]

-- the last bytes say the number where it fits them
narrow : (n k : ℕ) (b : List ℕ) → IsBytes b → length b ≡ n + suc k → distance (twos b) < 128 * 256 ^ k → twos (drop n b) ≡ twos b
narrow zero k b h l d = refl
narrow (suc n) k [] h l d = absurd (omega arith)
narrow (suc n) k (x ∷ []) h l d = absurd (omega arith)
narrow (suc n) k (x ∷ y ∷ ys) h l d =
    let le : k ≤ length ys = omega arith in
    let p : 256 ^ k ≤ 256 ^ length ys = pow-le-pow_right (omega arith) le in
    let e = narrow_one x y ys h (omega (arith, d, p)) in
    narrow n k (y ∷ ys) h.1 (omega arith) (rw e d) ∙ e

-- bytes of a number that doesn't fit one byte less are minimal
minimal_by : (c : List ℕ) → IsBytes c → 0 < length c → (2 ≤ length c → 128 * 256 ^ (length c - 2) ≤ distance (twos c)) → IsMinimal c
minimal_by [] b s least = absurd (omega arith)
minimal_by (x ∷ []) b s least = tt
minimal_by (x ∷ y ∷ ys) b s least =
    let few : length (x ∷ y ∷ ys) - 2 ≡ length ys = omega arith in
    let far : 128 * 256 ^ length ys ≤ distance (twos (x ∷ y ∷ ys)) = subst (λ k. 128 * 256 ^ k ≤ distance (twos (x ∷ y ∷ ys))) few (least (omega arith)) in
    let e = number_cons 256 x (y ∷ ys) in
    let q = pow-suc 256 (length ys) in
    let r = pow-suc 256 (length (y ∷ ys)) in (
      λ z. elim (cases_lt y 128) [
        | inl k ↦
            let n : 128 * 256 ^ length ys ≤ number_from_digits 256 (x ∷ y ∷ ys) = rw (sym (ap distance (twos_positive x (y ∷ ys) (omega arith)))) far in
            absurd (omega (arith, n, e, ap (λ i. i * 256 ^ length (y ∷ ys)) z, number_below y ys b.1 k))
        | inr k ↦ k
      ],
      λ z. elim (cases_lt y 128) [
        | inl k ↦ k
        | inr k ↦
            let n : 128 * 256 ^ length ys ≤ 256 ^ length (x ∷ y ∷ ys) - 1 - number_from_digits 256 (x ∷ y ∷ ys) =
            rw (sym (ap distance (negative_is x (y ∷ ys) b (omega arith)))) far in
            absurd (omega (arith, n, e, q, r, ap (λ i. i * 256 ^ length (y ∷ ys)) z, number_lt 256 (y ∷ ys) b.1, number_above y ys k))
      ],
    )

bytes_drop : (n : ℕ) (b : List ℕ) → IsBytes b → IsBytes (drop n b)
bytes_drop zero b h = h
bytes_drop (suc n) [] h = h
bytes_drop (suc n) (x ∷ xs) h = bytes_drop n xs h.1

-- of bytes of a number, as many as it takes, from the last one, are the fewest
pub fewest :
    (n k : ℕ) (b : List ℕ) (z : ℤ) → IsBytes b → twos b ≡ z → length b ≡ n + suc k → distance z < 128 * 256 ^ k → (1 ≤ k → 128 * 256 ^ (k - 1) ≤ distance z)
    → drop n b ≡ minimal_bytes z
fewest n k b z h e l d least =
    let same : twos (drop n b) ≡ z = narrow n k b h l (rw e d) ∙ e in
    let few : length (drop n b) ≡ suc k = omega (arith, length-drop n b) in
    let one : length (drop n b) - 2 ≡ k - 1 = omega arith in
    minimal_only z (drop n b) (record {
      in_bytes = bytes_drop n b h;
      minimal = minimal_by (drop n b) (bytes_drop n b h) (omega arith) (λ i. rw (one, same) (least (omega arith)));
      number = same;
    })

-- the eight bytes of a number of 64 bits say it
pub be_twos : (z : ℤ) → SFits w64 z → twos (to_be_bytes w64 (cast_unsigned w64 z)) ≡ z
be_twos (pos n) h = twos_positive _ _ (omega (arith, h)) ∙ ap pos (be_number n (omega (arith, h)))
be_twos (negsuc n) h =
    let u = 2 ^ 64 - suc n in
    negative_is _ _ (be_bytes u) (omega (arith, h)) ∙ ap negsuc (omega (arith, h, be_number u (omega arith)))

-- a number of 8 bits is one byte
pub one_byte : (z : ℤ) → SFits w8 z → minimal_bytes z ≡ cast_unsigned w8 z ∷ []
one_byte (pos n) h =
    let number : twos (n ∷ []) ≡ pos n = twos_positive n [] (omega (arith, h)) ∙ ap pos (omega arith) in
    sym (minimal_only (pos n) (n ∷ []) (record { in_bytes = (omega (arith, h), tt); minimal = tt; number = number }))
one_byte (negsuc n) h =
    let u = 256 - suc n in
    let number : twos (u ∷ []) ≡ negsuc n = negative_is u [] (omega (arith, h), tt) (omega (arith, h)) ∙ ap negsuc (omega (arith, h)) in
    sym (minimal_only (negsuc n) (u ∷ []) (record { in_bytes = (omega (arith, h), tt); minimal = tt; number = number }))

bits_of_bytes : (k : ℕ) → 2 ^ (8 * k) ≡ 256 ^ k
bits_of_bytes zero = refl
bits_of_bytes (suc k) =
    let e : 8 * suc k ≡ 8 + 8 * k = omega arith in
    omega (arith, ap (λ n. 2 ^ n) e, pow-add 2 8 (8 * k), bits_of_bytes k, pow-suc 256 k)

-- how many bytes hold a number below 2^63 and one bit more
pub octets_hold : (d k : ℕ) → d < 2 ^ 63 → k ≡ (64 - count_leading_zeros 64 d) / 8 → (k ≤ 7) × (d < 128 * 256 ^ k) × (1 ≤ k → 128 * 256 ^ (k - 1) ≤ d)
octets_hold d k small e =
    let p = leading_length 64 d (omega arith) in
    let m = p.0 in
    let few : m < 64 = elim (cases_lt m 64) [
      | inl h ↦ h
      | inr h ↦ let q : 2 ^ 64 ≤ 2 ^ m = pow-le-pow_right (omega arith) h in absurd (omega (arith, p.3, q, small))
    ] in
    let within : m ≤ 8 * k + 7 = omega (arith, p.1, e) in
    let over : 8 * k ≤ m = omega (arith, p.1, e) in
    let fits : 2 ^ m ≤ 2 ^ (8 * k + 7) = pow-le-pow_right (omega arith) within in
    let least : 2 ^ (8 * k) ≤ 2 ^ m = pow-le-pow_right (omega arith) over in
    let b = bits_of_bytes k in (
      omega (arith, p.1, e, few),
      omega (arith, p.2, fits, pow-add 2 (8 * k) 7, b),
      λ i. let one : k ≡ suc (k - 1) = omega arith in omega (arith, p.3, least, b, ap (λ n. 256 ^ n) one, pow-suc 256 (k - 1)),
    )
