-- Numbers in two's complement, by their first byte and their count of bytes (X.690, 8.3).
use Rattle.std.proofs.Common.{◌≡◌, ℕ, zero, suc, ◌+◌, ◌-◌, ◌*◌, ◌^◌, ◌<◌, ◌≤◌, List, [], ◌∷◌, length, get_or, take, length-take, Bool, true, false, ℤ}
use Rattle.std.proofs.Common.{pos, negsuc, ◌+ℤ◌, ◌-ℤ◌, ◌*ℤ◌, ◌≤ℤ◌, FitsSigned, IsTrue, ◌↔◌, nat_lt, ltb-true, ltb-false, lt-ltb, le-ltb, refl, sym, ap}
use Rattle.std.proofs.Common.{subst, ◌∙◌, arith, inl, inr}
use Rattle.std.specs.Int.{w64}
use Rattle.std.proofs.Math.Nat.{pow-suc, pow-le-pow_right}
use Rattle.std.specs.Int.Digits.{number_from_digits}
use Rattle.std.proofs.lemmas.Bool.{cases_lt}
use Rattle.std.proofs.lemmas.Int.{ints}
use Rattle.std.proofs.lemmas.Int.Digits.{number_lt, number_more}
use Rattle.yasna_base.specs.declared.mode.BERMode.{BERMode}
use Rattle.yasna_base.specs.Digits.{IsBytes}
use Rattle.yasna_base.specs.Integer.{twos, IsMinimal, IsSigned, IsUnsigned}
use Rattle.yasna_base.specs.BigInteger.{signed_number}
use Rattle.yasna_base.proofs.Integer.{twos_positive, twos_negative, negative_is, number_below, number_above, positive_above, negative_below}

-- Without the first bit, the number is read unsigned.
pub positive_is : (c : List ℕ) → get_or c 0 0 < 128 → twos c ≡ pos (number_from_digits 256 c)
unfolding twos
positive_is [] h = refl
positive_is (x ∷ xs) h = twos_positive x xs h

half : (xs : List ℕ) → length xs ≤ 7 → 128 * 256 ^ length xs ≤ 2 ^ 63
half xs l = let p : 256 ^ length xs ≤ 256 ^ 7 = pow-le-pow_right (omega arith) l in omega arith

-- Without it, eight bytes at most spell less than 2^63.
pub positive_small : (c : List ℕ) → IsBytes c → length c ≤ 8 → get_or c 0 0 < 128 → number_from_digits 256 c < 2 ^ 63
positive_small [] b l h = omega arith
positive_small (x ∷ xs) b l h = omega (arith, number_below x xs b h, half xs (omega arith))

-- With it, they lack less than 2^63 to the greatest number of their count.
pub negative_small : (c : List ℕ) → IsBytes c → length c ≤ 8 → 128 ≤ get_or c 0 0 → 256 ^ length c - 1 - number_from_digits 256 c < 2 ^ 63
negative_small [] b l h = omega arith
negative_small (x ∷ xs) b l h = omega (arith, number_above x xs h, half xs (omega arith), pow-suc 256 (length xs))

-- At most eight bytes fit 64 bits.
eight_fit : (c : List ℕ) → IsBytes c → length c ≤ 8 → FitsSigned w64 (twos c)
eight_fit [] b l = rw (positive_is [] (omega arith)) (record { sfits = omega arith })
eight_fit (x ∷ xs) b l = elim (cases_lt x 128) [
  | inl h ↦ rw (positive_is (x ∷ xs) h) (record { sfits = positive_small (x ∷ xs) b l h })
  | inr h ↦ rw (negative_is x xs b h) (record { sfits = negative_small (x ∷ xs) b l h })
]

-- The fewest bytes are one at least.
pub minimal_some : (c : List ℕ) → IsMinimal c → 0 < length c
minimal_some [] m = absurd m
minimal_some (x ∷ xs) m = omega arith

too_far : (c : List ℕ) → IsBytes c → IsMinimal c → 8 < length c → FitsSigned w64 (twos c) → ⊥
too_far [] b m l f = omega arith
too_far (x ∷ []) b m l f = omega arith
too_far (x ∷ y ∷ ys) b m l f =
    let k : 7 ≤ length ys = omega arith in
    let p : 256 ^ 7 ≤ 256 ^ length ys = pow-le-pow_right (omega arith) k in
    elim (cases_lt x 128) [
      | inl h ↦ let e = rw (twos_positive x (y ∷ ys) h) at f.sfits in omega (arith, positive_above x y ys m h)
      | inr h ↦ let e = rw (negative_is x (y ∷ ys) b h) at f.sfits in omega (arith, negative_below x y ys b m h)
    ]

-- More than eight bytes are no number of 64 bits.
pub not_eight : (m : BERMode) (c : List ℕ) → 8 < length c → (v : ℤ) → IsSigned w64 m v c → ⊥
not_eight m c l v h = too_far c h.integer.in_bytes h.integer.minimal l (subst (λ z. FitsSigned w64 z) (sym h.integer.number) h.in_type)

-- At most eight bytes are one.
pub encodes_signed : (m : BERMode) (c : List ℕ) (v : ℤ) → IsBytes c → IsMinimal c → length c ≤ 8 → v ≡ twos c → IsSigned w64 m v c
encodes_signed m c v b k l e = record {
  integer = record { in_bytes = b; minimal = k; number = sym e };
  in_type = subst (λ z. FitsSigned w64 z) (sym e) (eight_fit c b l);
}

-- The sign is that of the first bit.
pub twos_signed : (c : List ℕ) → 1 ≤ length c → signed_number (nat_lt (get_or c 0 0) 128) c ≡ twos c
twos_signed [] l = absurd (omega arith)
twos_signed (x ∷ xs) l = elim (cases_lt x 128) [
  | inl h ↦ rw (lt-ltb x 128 h) (sym (twos_positive x xs h))
  | inr h ↦ rw (le-ltb x 128 h) (sym (twos_negative x xs h))
]

-- A further byte after the first i.
pub signed_more : (p : Bool) (c : List ℕ) (i : ℕ) → i < length c →
    signed_number p (take (i + 1) c) ≡ signed_number p (take i c) *ℤ pos 256 +ℤ pos (get_or c i 0)
signed_more true c i h = let m = number_more 256 c i h in omega (arith, ints)
signed_more false c i h =
    let m = number_more 256 c i h in
    let e : length (take i c) ≡ i = omega (arith, length-take i c) in
    let f : length (take (i + 1) c) ≡ suc i = omega (arith, length-take (i + 1) c) in
    let g = pow-suc 256 i in
    let j = ap (λ n. 256 ^ n) e in
    let k = ap (λ n. 256 ^ n) f in
    omega (arith, ints)

small_power : (xs : List ℕ) → length xs ≤ 6 → 256 ^ length xs ≤ 256 ^ 6
small_power xs l = pow-le-pow_right (omega arith) l

room_positive : (d : List ℕ) → IsBytes d → length d ≤ 7 → get_or d 0 0 < 128 → (number_from_digits 256 d + 1) * 256 ≤ 2 ^ 63
room_positive [] b l h = omega arith
room_positive (x ∷ xs) b l h = omega (arith, number_below x xs b h, small_power xs (omega arith))

room_negative : (d : List ℕ) → length d ≤ 7 → (0 < length d → 128 ≤ get_or d 0 0) → (256 ^ length d - number_from_digits 256 d) * 256 ≤ 2 ^ 63
room_negative [] l h = omega arith
room_negative (x ∷ xs) l h = omega (arith, number_above x xs (h (omega arith)), small_power xs (omega arith), pow-suc 256 (length xs))

-- In 64 bits, a front that isn't all has room for another byte.
pub record Room (z : ℤ) (d : ℕ) : Type 0 where
  pub product : FitsSigned w64 (z *ℤ pos 256)
  pub sum : FitsSigned w64 (z *ℤ pos 256 +ℤ pos d)

room : (p : Bool) (a : List ℕ) (d : ℕ) → d < 256 → IsBytes a → length a ≤ 7 → (p ≡ true → get_or a 0 0 < 128) →
    (p ≡ false → 0 < length a → 128 ≤ get_or a 0 0) → Room (signed_number p a) d
room true a d k b l f g =
    let n = number_from_digits 256 a in
    let r = room_positive a b l (f refl) in
    let e : pos (n * 256) ≡ pos n *ℤ pos 256 = omega (arith, ints) in
    let h : pos (n * 256 + d) ≡ pos n *ℤ pos 256 +ℤ pos d = omega (arith, ints) in
    record {
      product = subst (λ z. FitsSigned w64 z) e (record { sfits = omega arith });
      sum = subst (λ z. FitsSigned w64 z) h (record { sfits = omega arith });
    }
room false a d k b l f g =
    let n = number_from_digits 256 a in
    let q = 256 ^ length a in
    let r = room_negative a l (g refl) in
    let i : n < q = number_lt 256 a b in
    let e : negsuc ((q - n) * 256 - 1) ≡ (pos n -ℤ pos q) *ℤ pos 256 = omega (arith, ints) in
    let h : negsuc ((q - n) * 256 - 1 - d) ≡ (pos n -ℤ pos q) *ℤ pos 256 +ℤ pos d = omega (arith, ints) in
    record {
      product = subst (λ z. FitsSigned w64 z) e (record { sfits = omega arith });
      sum = subst (λ z. FitsSigned w64 z) h (record { sfits = omega arith });
    }

take_bytes : (i : ℕ) (c : List ℕ) → IsBytes c → IsBytes (take i c)
take_bytes zero c b = tt
take_bytes (suc i) [] b = tt
take_bytes (suc i) (x ∷ c) b = (b.0, take_bytes i c b.1)

first_taken : (i : ℕ) (c : List ℕ) → 0 < length (take i c) → get_or (take i c) 0 0 ≡ get_or c 0 0
first_taken zero c h = absurd (omega arith)
first_taken (suc i) [] h = absurd (omega arith)
first_taken (suc i) (x ∷ c) h = refl

not_first : (a : List ℕ) → length a ≡ 0 → get_or a 0 0 < 128
not_first [] e = omega arith
not_first (x ∷ a) e = absurd (omega arith)

pub room_of : (c : List ℕ) (i : ℕ) → IsBytes c → length c ≤ 8 → i < length c → get_or c i 0 < 256 →
    Room (signed_number (nat_lt (get_or c 0 0) 128) (take i c)) (get_or c i 0)
room_of c i b l h k =
    let a = take i c in
    room (nat_lt (get_or c 0 0) 128) a (get_or c i 0) k (take_bytes i c b) (omega (arith, length-take i c))
    (λ e. elim (cases_lt 0 (length a)) [ inl j ↦ omega (arith, first_taken i c j, ltb-true (get_or c 0 0) 128 e) | inr j ↦ not_first a (omega arith) ])
    (λ e j. omega (arith, first_taken i c j, ltb-false (get_or c 0 0) 128 e))

-- Bytes with the first bit are no unsigned number.
pub not_unsigned : (k : ℕ) (m : BERMode) (c : List ℕ) → 128 ≤ get_or c 0 0 → (v : ℕ) → IsUnsigned k m v c → ⊥
not_unsigned k m [] h v u = omega arith
not_unsigned k m (x ∷ xs) h v u = let e = sym (negative_is x xs u.integer.in_bytes h) ∙ u.integer.number in absurd (cc)

-- Contents without the sign bit are the unsigned number that they spell.
pub encodes_unsigned : (k : ℕ) (m : BERMode) (c : List ℕ) (n : ℕ) → IsBytes c → IsMinimal c → get_or c 0 0 < 128 → n ≡ number_from_digits 256 c → n < 2 ^ k →
    IsUnsigned k m n c
encodes_unsigned k m c n b i h e l = record {
  integer = record { in_bytes = b; minimal = i; number = positive_is c h ∙ ap pos (sym e) };
  in_type = l;
}

-- Contents without the sign bit are no other unsigned number.
pub unsigned_is : (k : ℕ) (m : BERMode) (c : List ℕ) → get_or c 0 0 < 128 → (v : ℕ) → IsUnsigned k m v c → v ≡ number_from_digits 256 c
unsigned_is k m c h v u = let e = sym u.integer.number ∙ positive_is c h in cc

-- The first byte shows whether a number is below 0.
pub sign_is : (c : List ℕ) → IsBytes c → IsTrue (nat_lt (get_or c 0 0) 128) ↔ (pos 0 ≤ℤ twos c)
sign_is [] b = (λ _. rw (positive_is [] (omega arith)) (omega (arith, ints)), λ _. refl)
sign_is (x ∷ xs) b = (
  λ t. rw (twos_positive x xs (ltb-true x 128 t)) (omega (arith, ints)),
  λ z. elim (cases_lt x 128) [
    | inl h ↦ lt-ltb x 128 h
    | inr h ↦ let e = negative_is x xs b h in absurd (omega (arith, ints))
  ],
)

-- A further one of eight bytes, of which those in front repeat the first bit.
pub record Step (p : Bool) (c : List ℕ) (b d : ℕ) : Type 0 where
  pub room : Room (signed_number p (take (b - 8) c)) d
  pub more : signed_number p (take (b + 1 - 8) c) ≡ signed_number p (take (b - 8) c) *ℤ pos 256 +ℤ pos d

sign_more : (p : Bool) (d : ℕ) → (p ≡ true → d ≡ 0) → (p ≡ false → d ≡ 255) → signed_number p [] ≡ signed_number p [] *ℤ pos 256 +ℤ pos d
sign_more true d f g = let e = f refl in omega (arith, ints)
sign_more false d f g = let e = g refl in omega (arith, ints)

sign_small : (p : Bool) (d : ℕ) → (p ≡ true → d ≡ 0) → (p ≡ false → d ≡ 255) → d < 256
sign_small true d f g = let e = f refl in omega arith
sign_small false d f g = let e = g refl in omega arith

step_in_prefix : (p : Bool) (c : List ℕ) (b d : ℕ) → b < 8 → (p ≡ true → d ≡ 0) → (p ≡ false → d ≡ 255) → Step p c b d
step_in_prefix p c b d n f g =
    let e : 0 ≡ b - 8 = omega arith in
    let h : 0 ≡ b + 1 - 8 = omega arith in
    record {
      room = subst (λ i. Room (signed_number p (take i c)) d) e
          (room p [] d (sign_small p d f g) tt (omega arith) (λ _. omega arith) (λ _ j. absurd (omega arith)));
      more = subst (λ i. signed_number p (take i c) ≡ signed_number p (take (b - 8) c) *ℤ pos 256 +ℤ pos d) h
          (subst (λ i. signed_number p [] ≡ signed_number p (take i c) *ℤ pos 256 +ℤ pos d) e (sign_more p d f g));
    }

pub step_of_eight : (c : List ℕ) (b d : ℕ) → IsBytes c → length c ≤ 8 → b < length c + 8 → get_or c (b - 8) 0 < 256 →
    (b < 8 → get_or c 0 0 < 128 → d ≡ 0) → (b < 8 → 128 ≤ get_or c 0 0 → d ≡ 255) → (8 ≤ b → d ≡ get_or c (b - 8) 0) →
    Step (nat_lt (get_or c 0 0) 128) c b d
step_of_eight c b d y l h k f g j = elim (cases_lt b 8) [
  | inl n ↦ step_in_prefix (nat_lt (get_or c 0 0) 128) c b d n (λ e. f n (ltb-true (get_or c 0 0) 128 e)) (λ e. g n (ltb-false (get_or c 0 0) 128 e))
  | inr n ↦
      let p = nat_lt (get_or c 0 0) 128 in
      let e : b - 8 + 1 ≡ b + 1 - 8 = omega arith in
      let q = sym (j n) in
      record {
        room = subst (λ x. Room (signed_number p (take (b - 8) c)) x) q (room_of c (b - 8) y l (omega arith) k);
        more = subst (λ i. signed_number p (take i c) ≡ signed_number p (take (b - 8) c) *ℤ pos 256 +ℤ pos d) e
            (subst (λ x. signed_number p (take (b - 8 + 1) c) ≡ signed_number p (take (b - 8) c) *ℤ pos 256 +ℤ pos x) q
            (signed_more p c (b - 8) (omega arith)));
      }
]

-- No bytes represent 0 or -1, by the sign of the number that they begin.
pub start_is : (x : ℕ) (z : ℤ) → (x < 128 → z ≡ pos 0) → (128 ≤ x → z ≡ negsuc 0) → z ≡ signed_number (nat_lt x 128) []
start_is x z f g = elim (cases_lt x 128) [
  | inl h ↦ let e = f h in rw (lt-ltb x 128 h) (omega (arith, ints))
  | inr h ↦ let e = g h in rw (le-ltb x 128 h) (omega (arith, ints))
]
