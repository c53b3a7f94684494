use Rattle.std.proofs.Common.{◌+◌, ◌*◌, length}
use Rattle.asn1show_walk.proofs.Reading.{Reached}
use Rattle.asn1show_walk.proofs.WalkFails.{GoesOn}
use Rattle.asn1show_walk.proofs.listing.+listing.Given as goal

abbrev pub decreases-list_contents : goal.decreases-list_contents
decreases-list_contents g l = 3 * l.context.levels + 2

abbrev pub decreases-list_element : goal.decreases-list_element
decreases-list_element g l = 3 * l.context.levels + 1

abbrev pub decreases-list_contents_of : goal.decreases-list_contents_of
decreases-list_contents_of g l = 3 * l.context.levels

abbrev pub invariant-list_contents-loop-after : goal.invariant-list_contents-loop-after
invariant-list_contents-loop-after g l =
    Reached l.context l.contents l.place (g.L.Visitor.visited l.initial.visitor) (g.L.Visitor.visited l.visitor) ×
    GoesOn l.context l.contents l.place l.is_counted

abbrev pub decreases-list_contents-loop-after : goal.decreases-list_contents-loop-after
decreases-list_contents-loop-after g l = length l.place.left.now
