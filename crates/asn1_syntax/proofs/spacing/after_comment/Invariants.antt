use Rattle.std.proofs.Common.{◌≡◌, ◌+◌, ◌≤◌, length}
use Rattle.asn1_syntax.specs.Spacing.{after_comment}
use Rattle.asn1_syntax.proofs.spacing.after_comment.Given as goal

abbrev pub invariant-loop-more : goal.invariant-loop-more
invariant-loop-more l = record {
  same : after_comment l.others l.rest ≡ after_comment 0 l.text;
  room : l.others + length l.rest ≤ length l.text;
}

abbrev pub decreases-loop-more : goal.decreases-loop-more
decreases-loop-more l = length l.rest
