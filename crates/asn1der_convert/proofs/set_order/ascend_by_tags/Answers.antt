use Rattle.std.proofs.Common.{◌≡◌, true, false, refl, rules}
use Rattle.std.specs.Ordering.{is_lt}
use Rattle.yasna_base.specs.Order.{tag_cmp}
use Rattle.asn1der_convert.specs.Rows.{part_of}
use Rattle.asn1der_convert.specs.SetOrder.{AscendByTags}
use Rattle.asn1der_convert.proofs.Rows.{first_shorter, order_begin, order_next, order_stops, order_ends, order_none, ascent_passes, ascent_stops}
use Rattle.asn1der_convert.proofs.set_order.ascend_by_tags.Goals as goal

pub loop-element-init : goal.loop-element-init
loop-element-init c = λ ps a. order_begin AscendByTags ps c.args.elements.now _ _ a (c.in-Some.ensures {u = tt})

pub loop-element-smaller : goal.loop-element-smaller
loop-element-smaller c = first_shorter _ _ _ (c.in-Some-first_element.ensures {u = tt})

pub loop-element-preserved : goal.loop-element-preserved
loop-element-preserved c = λ ps a.
    let last = c.loop-element.last in
    let next = c.in-Some-first_element.element in
    let lower : is_lt (tag_cmp last.tag next.tag) ≡ true = search rules in
    order_next AscendByTags ps _ _ _ _ (c.loop-element.invariant ps a) (c.in-Some-first_element.ensures {u = tt})
    (ascent_passes (part_of last) (part_of next) lower)

pub returns-then-not-ascends : goal.returns-then-not-ascends
returns-then-not-ascends c = λ ps a.
    let last = c.loop-element.last in
    let next = c.in-Some-first_element.element in
    let not_lower : is_lt (tag_cmp last.tag next.tag) ≡ false = search rules in
    order_stops AscendByTags ps _ _ _ _ false (c.loop-element.invariant ps a) (c.in-Some-first_element.ensures {u = tt})
    (ascent_stops (part_of last) (part_of next) not_lower) (λ yes. let e : false ≡ true = yes in absurd (cc))

pub returns : goal.returns
returns c = λ ps a.
    order_ends AscendByTags ps _ _ true (c.loop-element.invariant ps a) (c.in_default-first_element.ensures {u = tt}) tt refl

pub returns-in_default : goal.returns-in_default
returns-in_default c = λ ps a. order_none AscendByTags ps c.args.elements.now true a (c.in_default.ensures {u = tt}) tt refl
