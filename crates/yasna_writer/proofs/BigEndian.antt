-- A number of 64 bits as eight bytes, the highest first.
use Rattle.std.proofs.Common.{◌≡◌, ℕ, ◌+◌, ◌^◌, ◌<◌, ◌≤◌, ◌∷◌, length, refl, sym, ap, ◌∙◌, pos, arith}
use Rattle.std.specs.Prelude.{true}
use Rattle.std.specs.Int.{w64, to_be_bytes}
use Rattle.std.specs.Int.Digits.{number_from_digits}
use Rattle.std.proofs.lemmas.Nat.{from_be_bytes-to_be_bytes_8}
use Rattle.yasna_base.specs.Digits.{IsBytes, digits}
use Rattle.yasna_base.specs.Length.{shortest_length}
use Rattle.yasna_base.proofs.Length.{counted_length}
use Rattle.yasna_base.specs.BigInteger.{trim_leading, signed_number}
use Rattle.yasna_writer.proofs.Without.{without_shorter, digits_without}

pub be_length : (n : ℕ) → length (to_be_bytes w64 n) ≡ 8
be_length n = refl

pub be_bytes : (n : ℕ) → IsBytes (to_be_bytes w64 n)
be_bytes n = search arith

pub be_number : (n : ℕ) → n < 2 ^ 64 → number_from_digits 256 (to_be_bytes w64 n) ≡ n
be_number n h = let e = from_be_bytes-to_be_bytes_8 n h in omega arith

pub trimmed_at_most : (n : ℕ) → length (trim_leading 0 (to_be_bytes w64 n)) ≤ 8
trimmed_at_most n = omega (arith, without_shorter 0 (to_be_bytes w64 n), be_length n)

-- a length from 128 on is its bytes without the zeros in front, and their count
pub length_trimmed : (n : ℕ) → 128 ≤ n → n < 2 ^ 64 → shortest_length n ≡ (128 + length (trim_leading 0 (to_be_bytes w64 n))) ∷ trim_leading 0 (to_be_bytes w64 n)
length_trimmed n h small =
    let e = be_number n small in
    let d = ap (digits 256) (sym e) ∙ digits_without (to_be_bytes w64 n) (be_bytes n) (omega arith) in
    counted_length n h ∙ ap (λ ds. (128 + length ds) ∷ ds) d

-- the bytes of a number from 0 on
pub be_unsigned : (n : ℕ) → n < 2 ^ 64 → signed_number true (to_be_bytes w64 n) ≡ pos n
be_unsigned n h = ap pos (be_number n h)
