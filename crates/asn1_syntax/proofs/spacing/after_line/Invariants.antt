use Rattle.std.proofs.Common.{◌≡◌, length}
use Rattle.asn1_syntax.specs.Spacing.{after_run, in_line}
use Rattle.asn1_syntax.proofs.spacing.after_line.Given as goal

abbrev pub invariant-loop-rest : goal.invariant-loop-rest
invariant-loop-rest l = after_run in_line l.rest ≡ after_run in_line l.text

abbrev pub decreases-loop-rest : goal.decreases-loop-rest
decreases-loop-rest l = length l.rest
