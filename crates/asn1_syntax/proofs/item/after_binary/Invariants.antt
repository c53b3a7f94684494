use Rattle.std.proofs.Common.{◌≡◌, length}
use Rattle.asn1_syntax.specs.Spacing.{after_run}
use Rattle.asn1_syntax.specs.Items.{first_is, is_in_bstring}
use Rattle.asn1_syntax.proofs.item.after_binary.Given as goal

abbrev pub invariant-loop-rest : goal.invariant-loop-rest
invariant-loop-rest l = after_run (first_is is_in_bstring) l.rest ≡ after_run (first_is is_in_bstring) l.text

abbrev pub decreases-loop-rest : goal.decreases-loop-rest
decreases-loop-rest l = length l.rest
