use Rattle.std.proofs.Common.{sym, ◌∙◌, ap}
use Rattle.asn1_syntax.specs.Tree.{assignments_then, left}
use Rattle.asn1_syntax.proofs.Texts.{one_more_assignment}
use Rattle.asn1_syntax.proofs.module.assignments.Goals as goal

pub loop-preserved : goal.loop-preserved
loop-preserved c =
    c.loop.invariant
    ∙ ap (assignments_then c.loop.assignments.items) c.in_ok-assignment.ensures
    ∙ sym (one_more_assignment c.loop.assignments.items c.in_ok-assignment.assignment (left c.assignment.new.cursor))
    ∙ ap (λ l. assignments_then l (left c.assignment.new.cursor)) (sym c.in_ok-push.ensures.items)
