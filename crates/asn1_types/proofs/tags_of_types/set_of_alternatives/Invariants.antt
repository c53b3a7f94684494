use Rattle.std.proofs.Common.{◌≡◌, true}
use Rattle.asn1_types.proofs.tags_of_types.set_of_alternatives.Given as goal

abbrev pub invariant-loop-alternative : goal.invariant-loop-alternative
invariant-loop-alternative l = l.all.is_untagged ≡ true
