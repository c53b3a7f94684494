-- Lengths that take two bytes, or three.
use Rattle.std.proofs.Common.{◌≡◌, ℕ, ◌+◌, ◌/◌, ◌%◌, ◌<◌, ◌≤◌, [], ◌∷◌, ◌++◌, length, ap, ◌∙◌, arith}
use Rattle.yasna_base.specs.Length.{shortest_length}
use Rattle.yasna_base.proofs.Digits.{digits_small}
use Rattle.yasna_base.proofs.Length.{counted_length}
use Rattle.yasna_writer.proofs.Identifiers.{digits_step}

pub length_in_two : (n : ℕ) → 128 ≤ n → n < 256 → shortest_length n ≡ 129 ∷ n ∷ []
length_in_two n h k = counted_length n h ∙ ap (λ ds. (128 + length ds) ∷ ds) (digits_small 256 n (omega arith) k)

pub length_in_three : (n : ℕ) → 256 ≤ n → n < 65536 → shortest_length n ≡ 130 ∷ (n / 256) ∷ (n % 256) ∷ []
length_in_three n h k =
    counted_length n (omega arith)
    ∙ ap (λ ds. (128 + length ds) ∷ ds)
    (digits_step 256 n (omega arith) h ∙ ap (λ ds. ds ++ (n % 256 ∷ [])) (digits_small 256 (n / 256) (omega arith) (omega arith)))
