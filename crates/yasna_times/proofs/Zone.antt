-- A text has one zone, and no digit begins it.
use Rattle.std.proofs.Common.{◌≡◌, ◌⊎◌, ℕ, ◌+◌, ◌<◌, ◌≤◌, Option, List, ℤ, length, get_or, arith, sym, ◌∙◌, inl, inr, subst}
use Rattle.yasna_base.specs.Text.{IsDigit}
use Rattle.yasna_times.specs.GeneralizedTime.{IsZone, IsDecimalMark}
use Rattle.yasna_times.specs.UtcTime.{IsUtcZone}
use Rattle.yasna_times.specs.Zone.{IsZulu, IsHoursAndMinutes, IsAmount, IsOffset}

-- the byte is a sign
pub is_sign : (sign n : ℕ) (z : ℤ) → IsOffset sign n z → (sign ≡ 43) ⊎ (sign ≡ 45)
is_sign sign n z (IsOffset.plus e f) = inl e
is_sign sign n z (IsOffset.minus e f) = inr e

pub one_offset : (sign n k : ℕ) (z y : ℤ) → n ≡ k → IsOffset sign n z → IsOffset sign k y → z ≡ y
one_offset sign n k z y e (IsOffset.plus a b) (IsOffset.plus c d) = cc
one_offset sign n k z y e (IsOffset.plus a b) (IsOffset.minus c d) = absurd (omega arith)
one_offset sign n k z y e (IsOffset.minus a b) (IsOffset.plus c d) = absurd (omega arith)
one_offset sign n k z y e (IsOffset.minus a b) (IsOffset.minus c d) = cc

-- the byte at i, which is, is no digit
pub record IsHead (s : List ℕ) (i : ℕ) : Type 0 where
  pub inside : i < length s
  pub no_digit : IsDigit (get_or s i 0) → ⊥

zulu_head : (s : List ℕ) (i : ℕ) → IsZulu s i → IsHead s i
zulu_head s i a = record { inside = omega arith; no_digit = λ d. omega arith }

signed_head : (s : List ℕ) (i n : ℕ) (z : ℤ) → i < length s → IsOffset (get_or s i 0) n z → IsHead s i
signed_head s i n z lt a =
    elim (is_sign (get_or s i 0) n z a) [
      | inl e ↦ record { inside = lt; no_digit = λ d. omega arith }
      | inr e ↦ record { inside = lt; no_digit = λ d. omega arith }
    ]

pub utc_zone_head : (s : List ℕ) (i : ℕ) (z : ℤ) → IsUtcZone s i z → IsHead s i
utc_zone_head s i z (IsUtcZone.zulu a e) = zulu_head s i a
utc_zone_head s i z (IsUtcZone.signed n a b) = signed_head s i n z (omega (arith, a.ends)) b

-- Z is no sign
zulu_unsigned : (s : List ℕ) (i n : ℕ) (z : ℤ) → IsZulu s i → IsOffset (get_or s i 0) n z → ⊥
zulu_unsigned s i n z a b = elim (is_sign (get_or s i 0) n z b) [ inl e ↦ omega (arith, a.letter) | inr e ↦ omega (arith, a.letter) ]

pub utc_zone_is : (s : List ℕ) (i : ℕ) (z y : ℤ) → IsUtcZone s i z → IsUtcZone s i y → z ≡ y
utc_zone_is s i z y (IsUtcZone.zulu a e) (IsUtcZone.zulu b f) = e ∙ sym f
utc_zone_is s i z y (IsUtcZone.zulu a e) (IsUtcZone.signed n b c) = absurd (zulu_unsigned s i n y a c)
utc_zone_is s i z y (IsUtcZone.signed n a b) (IsUtcZone.zulu c e) = absurd (zulu_unsigned s i n z c b)
utc_zone_is s i z y (IsUtcZone.signed n a b) (IsUtcZone.signed k c d) = one_offset (get_or s i 0) n k z y (a.is ∙ sym c.is) b d

-- where the time ends by neither Z nor a sign before these hours and minutes there is no zone
pub no_utc_zone : (s : List ℕ) (i n : ℕ) → (IsZulu s i → ⊥) → IsHoursAndMinutes s (i + 1) n → ((z : ℤ) → IsOffset (get_or s i 0) n z → ⊥) →
    (z : ℤ) → IsUtcZone s i z → ⊥
no_utc_zone s i n no_letter a no_sign z (IsUtcZone.zulu b e) = no_letter b
no_utc_zone s i n no_letter a no_sign z (IsUtcZone.signed k b c) = no_sign z (subst (λ x. IsOffset (get_or s i 0) x z) (b.is ∙ sym a.is) c)

amount_is : (s : List ℕ) (i n k : ℕ) → IsAmount s i n → IsAmount s i k → n ≡ k
amount_is s i n k (inl a) (inl b) = a.is ∙ sym b.is
amount_is s i n k (inl a) (inr b) = absurd (omega (arith, a.ends, b.ends))
amount_is s i n k (inr a) (inl b) = absurd (omega (arith, a.ends, b.ends))
amount_is s i n k (inr a) (inr b) = a.is ∙ sym b.is

amount_inside : (s : List ℕ) (i n : ℕ) → IsAmount s i n → i < length s
amount_inside s i n (inl a) = omega (arith, a.ends)
amount_inside s i n (inr a) = omega (arith, a.ends)

-- a zone at i: i lies in the text or at its end, and neither a digit nor a mark begins it
pub record IsZoneHead (s : List ℕ) (i : ℕ) : Type 0 where
  pub inside : i ≤ length s
  pub no_digit : i < length s → IsDigit (get_or s i 0) → ⊥
  pub no_decimal_mark : i < length s → IsDecimalMark (get_or s i 0) → ⊥

sign_unmarked : (b n : ℕ) (z : ℤ) → IsOffset b n z → IsDecimalMark b → ⊥
sign_unmarked b n z a m = elim (is_sign b n z a) [
  | inl e ↦ elim m [ inl f ↦ omega arith | inr f ↦ omega arith ]
  | inr e ↦ elim m [ inl f ↦ omega arith | inr f ↦ omega arith ]
]

pub zone_head : (s : List ℕ) (given : Option ℤ) (i : ℕ) (z : ℤ) → IsZone s given i z → IsZoneHead s i
zone_head s given i z (IsZone.local_time e l) =
    record { inside = omega arith; no_digit = λ lt. absurd (omega arith); no_decimal_mark = λ lt. absurd (omega arith) }
zone_head s given i z (IsZone.zulu a e) =
    let h = zulu_head s i a in
    record {
      inside = omega (arith, h.inside);
      no_digit = λ lt. h.no_digit;
      no_decimal_mark = λ lt m. elim m [ inl f ↦ omega (arith, a.letter) | inr f ↦ omega (arith, a.letter) ];
    }
zone_head s given i z (IsZone.signed n a b) =
    let lt : i < length s = omega (arith, amount_inside s (i + 1) n a) in
    let h = signed_head s i n z lt b in
    record { inside = omega arith; no_digit = λ lt. h.no_digit; no_decimal_mark = λ lt. sign_unmarked (get_or s i 0) n z b }

pub zone_is : (s : List ℕ) (given : Option ℤ) (i : ℕ) (z y : ℤ) → IsZone s given i z → IsZone s given i y → z ≡ y
zone_is s given i z y (IsZone.local_time e l) (IsZone.local_time f m) = cc
zone_is s given i z y (IsZone.local_time e l) (IsZone.zulu b f) = absurd (omega (arith, b.ends))
zone_is s given i z y (IsZone.local_time e l) (IsZone.signed k b c) = absurd (omega (arith, amount_inside s (i + 1) k b))
zone_is s given i z y (IsZone.zulu a e) (IsZone.local_time f m) = absurd (omega (arith, a.ends))
zone_is s given i z y (IsZone.zulu a e) (IsZone.zulu b f) = e ∙ sym f
zone_is s given i z y (IsZone.zulu a e) (IsZone.signed k b c) = absurd (zulu_unsigned s i k y a c)
zone_is s given i z y (IsZone.signed n a b) (IsZone.local_time f m) = absurd (omega (arith, amount_inside s (i + 1) n a))
zone_is s given i z y (IsZone.signed n a b) (IsZone.zulu c e) = absurd (zulu_unsigned s i n z c b)
zone_is s given i z y (IsZone.signed n a b) (IsZone.signed k c d) = one_offset (get_or s i 0) n k z y (amount_is s (i + 1) n k a c) b d

-- no hours and minutes, no zone
pub no_amount_zone : (s : List ℕ) (given : Option ℤ) (i : ℕ) → (i ≡ length s → ⊥) → (IsZulu s i → ⊥) → ((n : ℕ) → IsAmount s (i + 1) n → ⊥) →
    (z : ℤ) → IsZone s given i z → ⊥
no_amount_zone s given i inside no_letter no_amount z (IsZone.local_time e l) = inside (sym l)
no_amount_zone s given i inside no_letter no_amount z (IsZone.zulu a e) = no_letter a
no_amount_zone s given i inside no_letter no_amount z (IsZone.signed n a b) = no_amount n a

-- no sign, no zone
pub no_sign_zone : (s : List ℕ) (given : Option ℤ) (i n : ℕ) → (i ≡ length s → ⊥) → (IsZulu s i → ⊥) → IsAmount s (i + 1) n →
    ((z : ℤ) → IsOffset (get_or s i 0) n z → ⊥) → (z : ℤ) → IsZone s given i z → ⊥
no_sign_zone s given i n inside no_letter a no_sign z (IsZone.local_time e l) = inside (sym l)
no_sign_zone s given i n inside no_letter a no_sign z (IsZone.zulu b e) = no_letter b
no_sign_zone s given i n inside no_letter a no_sign z (IsZone.signed k b c) =
    no_sign z (subst (λ x. IsOffset (get_or s i 0) x z) (amount_is s (i + 1) k n b a) c)
