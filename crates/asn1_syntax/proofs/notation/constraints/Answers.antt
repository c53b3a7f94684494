use Rattle.std.proofs.Common.{sym, ◌∙◌, ap}
use Rattle.asn1_syntax.specs.Tree.{constraints_then, left}
use Rattle.asn1_syntax.proofs.Texts.{one_more_constraint}
use Rattle.asn1_syntax.proofs.notation.constraints.Goals as goal

pub loop-preserved : goal.loop-preserved
loop-preserved c =
    c.loop.invariant
    ∙ ap (constraints_then c.loop.constraints.items) c.in_ok-constraint.ensures
    ∙ sym (one_more_constraint c.loop.constraints.items c.in_ok-constraint.constraint (left c.parenthesized.new.self))
    ∙ ap (λ cs. constraints_then cs (left c.parenthesized.new.self)) (sym c.in_ok-push.ensures.items)
