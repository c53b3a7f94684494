use Rattle.std.proofs.Common.{◌≡◌, length}
use Rattle.asn1_syntax.specs.Spacing.{after_run}
use Rattle.asn1_syntax.specs.Items.{first_is, is_in_hstring}
use Rattle.asn1_syntax.proofs.item.after_hexadecimal.Given as goal

abbrev pub invariant-loop-rest : goal.invariant-loop-rest
invariant-loop-rest l = after_run (first_is is_in_hstring) l.rest ≡ after_run (first_is is_in_hstring) l.text

abbrev pub decreases-loop-rest : goal.decreases-loop-rest
decreases-loop-rest l = length l.rest
