use Rattle.std.proofs.Common.{◌≡◌}
use Rattle.yasna_notation_types.specs.LeastBits.{bits_left}
use Rattle.yasna_notation_types.proofs.least_bits.bits_left.Given as goal

abbrev pub invariant-loop-left : goal.invariant-loop-left
invariant-loop-left l =
    record { same : bits_left (record { bytes = l.bytes; count = l.count }) l.left ≡ bits_left (record { bytes = l.bytes; count = l.count }) l.count }

abbrev pub decreases-loop-left : goal.decreases-loop-left
decreases-loop-left l = l.left
