use Rattle.std.proofs.Common.{◌≡◌, length}
use Rattle.asn1_syntax.specs.Items.{after_string}
use Rattle.asn1_syntax.proofs.item.after_string.Given as goal

abbrev pub invariant-loop-rest : goal.invariant-loop-rest
invariant-loop-rest l = after_string l.rest ≡ after_string l.text

abbrev pub decreases-loop-rest : goal.decreases-loop-rest
decreases-loop-rest l = length l.rest
