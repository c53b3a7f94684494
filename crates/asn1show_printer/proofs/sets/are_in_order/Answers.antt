use Rattle.std.proofs.Common.{sym}
use Rattle.asn1show_printer.proofs.Pieces.{ascends_first, ascends_next, ascends_not, ascends_end, piece_shorter}
use Rattle.asn1show_printer.proofs.sets.are_in_order.Goals as goal

pub loop-next-init : goal.loop-next-init
loop-next-init c = ascends_first c.args.order c.args.contents.now _ _ (c.in-Some.ensures {u = tt})

pub returns-then-not-may_follow : goal.returns-then-not-may_follow
returns-then-not-may_follow c =
    ascends_not c.args.order c.args.contents.now _ _ _ _ c.loop-next.invariant (c.in-Some-first_element.ensures {u = tt})
    (sym (c.if-not-may_follow.ensures {u = tt}))

pub loop-next-smaller : goal.loop-next-smaller
loop-next-smaller c = piece_shorter _ _ _ (c.in-Some-first_element.ensures {u = tt})

pub loop-next-preserved : goal.loop-next-preserved
loop-next-preserved c =
    ascends_next c.args.order c.args.contents.now _ _ _ _ c.loop-next.invariant (c.in-Some-first_element.ensures {u = tt})
    (sym (c.if-not-may_follow.ensures {u = tt}))

pub returns : goal.returns
returns c = ascends_end c.args.order c.args.contents.now _ _ c.loop-next.invariant (c.in_default-first_element.ensures {u = tt})
