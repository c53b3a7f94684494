-- The sign of a number in two's complement, as a flag says it.
use Rattle.std.proofs.Common.{◌≡◌, ℕ, List, Bool, true, false, IsTrue, ◌↔◌, nat_lt, get_or, refl}
use Rattle.std.specs.Bool.{beq}
use Rattle.yasna_base.specs.BigInteger.{CanBigInteger}
use Rattle.yasna_base.specs.Digits.{IsBytes}
use Rattle.yasna_base.specs.Integer.{IsMinimal}
use Rattle.yasna_bytes.proofs.Integer.{sign_is}

-- two flags are equal if and only if each is true where the other is
flags_equal : (a b : Bool) → IsTrue (beq a b) ↔ (IsTrue a ↔ IsTrue b)
flags_equal true true = (λ _. (λ x. x, λ x. x), λ _. refl)
flags_equal true false = (λ h. absurd (cc), λ h. h.0 refl)
flags_equal false true = (λ h. absurd (cc), λ h. h.1 refl)
flags_equal false false = (λ _. (λ x. x, λ x. x), λ _. refl)

-- the fewest bytes of a number are canonical if and only if the flag is their sign
pub sign_matches : (c : List ℕ) (positive : Bool) → IsBytes c → IsMinimal c →
    IsTrue (beq positive (nat_lt (get_or c 0 0) 128)) ↔ CanBigInteger (record { bytes = c; positive = positive })
sign_matches c positive b minimal =
    let first = sign_is c b in
    let flags = flags_equal positive (nat_lt (get_or c 0 0) 128) in (
      λ yes. let same = flags.0 yes in record {
        in_bytes = b;
        minimal = minimal;
        sign = (λ p. first.0 (same.0 p), λ z. same.1 (first.1 z));
      },
      λ can. flags.1 (λ p. first.1 (can.sign.0 p), λ q. can.sign.1 (first.0 q)),
    )
