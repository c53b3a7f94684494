use Rattle.std.proofs.Common.{◌≡◌, ℕ, ◌<◌, ◌≤◌}
use Rattle.asn1der_typed.specs.Appending.{bit_at}
use Rattle.asn1der_typed.proofs.bits.named_count.Given as goal

abbrev pub invariant-loop-left : goal.invariant-loop-left
invariant-loop-left l = record { few : l.left ≤ l.count; zeros : (i : ℕ) → l.left ≤ i → i < l.count → bit_at l.octets i ≡ 0 }

abbrev pub decreases-loop-left : goal.decreases-loop-left
decreases-loop-left l = l.left
