use Rattle.std.proofs.Common.{◌≡◌, length}
use Rattle.asn1_syntax.specs.Spacing.{after_run}
use Rattle.asn1_syntax.specs.Items.{continues_word}
use Rattle.asn1_syntax.proofs.item.after_word.Given as goal

abbrev pub invariant-loop-rest : goal.invariant-loop-rest
invariant-loop-rest l = after_run continues_word l.rest ≡ after_run continues_word l.text

abbrev pub decreases-loop-rest : goal.decreases-loop-rest
decreases-loop-rest l = length l.rest
