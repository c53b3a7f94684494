use Rattle.std.proofs.Common.{List, ℕ, length}
use Rattle.asn1_syntax.specs.Spacing.{IsGap}
use Rattle.asn1_syntax.proofs.spacing.after_gap.Given as goal

abbrev pub invariant-loop-more : goal.invariant-loop-more
invariant-loop-more l = (after : List ℕ) → IsGap l.rest after → IsGap l.text after

abbrev pub decreases-loop-more : goal.decreases-loop-more
decreases-loop-more l = length l.rest
