use Rattle.std.proofs.Common.{length}
use Rattle.asn1show_printer.proofs.Tags.{TagsFrom}
use Rattle.asn1show_printer.proofs.sets.tags_in.Given as goal

abbrev pub invariant-loop-element : goal.invariant-loop-element
invariant-loop-element l = TagsFrom l.contents l.left l.tags.items

abbrev pub decreases-loop-element : goal.decreases-loop-element
decreases-loop-element l = length l.left
