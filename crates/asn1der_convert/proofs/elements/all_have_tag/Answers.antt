use Rattle.std.proofs.Common.{◌≡◌, ◌∙◌, true, false, refl, sym}
use Rattle.asn1der_convert.proofs.Rows.{first_shorter, tags_begin, tags_next, tags_all, tags_other}
use Rattle.asn1der_convert.proofs.elements.all_have_tag.Goals as goal

pub loop-element-init : goal.loop-element-init
loop-element-init c = λ ps a. tags_begin c.args.tag ps c.args.elements.now a

pub loop-element-smaller : goal.loop-element-smaller
loop-element-smaller c = first_shorter _ _ _ (c.in-Some.ensures {u = tt})

pub loop-element-preserved : goal.loop-element-preserved
loop-element-preserved c = λ ps a.
    tags_next c.args.tag ps _ _ _ (c.loop-element.invariant ps a) (c.in-Some.ensures {u = tt}) (c.is_tag.ensures.0 c.if-not-is_tag.false)

pub returns-then-not-is_tag : goal.returns-then-not-is_tag
returns-then-not-is_tag c = λ ps a.
    tags_other c.args.tag ps _ _ _ false (c.loop-element.invariant ps a) (c.in-Some.ensures {u = tt})
    (λ same. let e : false ≡ true = sym c.if-not-is_tag.true ∙ c.is_tag.ensures.1 same in absurd (cc)) (λ yes. let e : false ≡ true = yes in absurd (cc))

pub returns : goal.returns
returns c = λ ps a. tags_all c.args.tag ps _ true (c.loop-element.invariant ps a) (c.in_default.ensures {u = tt}) refl
