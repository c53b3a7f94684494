use Rattle.std.proofs.Common.{◌≡◌, true, false, refl, sym}
use Rattle.asn1der_convert.specs.SetOrder.{InOrder}
use Rattle.asn1der_convert.proofs.Rows.{first_shorter, order_begin, order_next, order_stops, order_ends, order_none, in_order_passes, in_order_stops}
use Rattle.asn1der_convert.proofs.set_order.are_in_order.Goals as goal

pub loop-element-init : goal.loop-element-init
loop-element-init c = λ ps a. order_begin (InOrder c.args.order) ps c.args.elements.now _ _ a (c.in-Some.ensures {u = tt})

pub loop-element-smaller : goal.loop-element-smaller
loop-element-smaller c = first_shorter _ _ _ (c.in-Some-first_element.ensures {u = tt})

pub loop-element-preserved : goal.loop-element-preserved
loop-element-preserved c = λ ps a.
    order_next (InOrder c.args.order) ps _ _ _ _ (c.loop-element.invariant ps a) (c.in-Some-first_element.ensures {u = tt})
    (in_order_passes c.args.order _ _ (sym (c.if-is_before.ensures {u = tt})))

pub returns-then-is_before : goal.returns-then-is_before
returns-then-is_before c = λ ps a.
    order_stops (InOrder c.args.order) ps _ _ _ _ false (c.loop-element.invariant ps a) (c.in-Some-first_element.ensures {u = tt})
    (in_order_stops c.args.order _ _ (sym (c.if-is_before.ensures {u = tt}))) (λ yes. let e : false ≡ true = yes in absurd (cc))

pub returns : goal.returns
returns c = λ ps a.
    order_ends (InOrder c.args.order) ps _ _ true (c.loop-element.invariant ps a) (c.in_default-first_element.ensures {u = tt}) ((λ k. k), tt) refl

pub returns-in_default : goal.returns-in_default
returns-in_default c = λ ps a. order_none (InOrder c.args.order) ps c.args.elements.now true a (c.in_default.ensures {u = tt}) tt refl
