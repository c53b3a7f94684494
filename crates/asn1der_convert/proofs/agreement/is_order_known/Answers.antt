use Rattle.std.proofs.Common.{◌≡◌, true, false, refl, sym, subst, ◌∙◌, rules, List}
use Rattle.asn1der_convert.specs.Agreement.{AgreesWithAll}
use Rattle.asn1der_convert.specs.Rows.{part_of}
use Rattle.asn1der_convert.specs.declared.agreement.Bounds.{Bounds}
use Rattle.asn1der_convert.proofs.Agreements.{undecided_next, undecided_stops, undecided_ends}
use Rattle.asn1der_convert.proofs.agreement.is_order_known.Goals as goal

pub returns-then-not-agrees_with_all : goal.returns-then-not-agrees_with_all
returns-then-not-agrees_with_all c = λ ps a.
    let no : c.agrees_with_all.result ≡ false = search rules in
    undecided_stops ps c.args.elements.now c.loop-element.all.items c.loop-element.left.now c.in-Some.element c.in-Some.rest.now false a
    (c.loop-element.invariant ps a) (c.in-Some.ensures {u = tt})
    (λ h.
    let yes : c.agrees_with_all.result ≡ true =
    c.agrees_with_all.ensures.1 (subst (λ (z : List Bounds). AgreesWithAll (part_of c.in-Some.element) z) (sym c.deref.ensures.value) h) in
    let e : false ≡ true = sym no ∙ yes in absurd (cc))
    (λ yes. let e : false ≡ true = yes in absurd (cc))

pub loop-element-preserved : goal.loop-element-preserved
loop-element-preserved c = λ ps a.
    let yes : c.agrees_with_all.result ≡ true = search rules in
    undecided_next ps c.loop-element.all.items c.remember.new.all.items c.loop-element.left.now c.in-Some.element c.in-Some.rest.now
    (c.loop-element.invariant ps a) (c.in-Some.ensures {u = tt})
    (subst (λ (z : List Bounds). AgreesWithAll (part_of c.in-Some.element) z) c.deref.ensures.value (c.agrees_with_all.ensures.0 yes))
    (c.in_ok-remember.ensures {u = tt})

pub returns : goal.returns
returns c = λ ps a.
    undecided_ends ps c.args.elements.now c.loop-element.all.items c.loop-element.left.now true a (c.loop-element.invariant ps a) (c.in_default.ensures {u = tt}) refl
