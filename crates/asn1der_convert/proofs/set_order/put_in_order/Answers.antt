use Rattle.std.proofs.Common.{◌≡◌, rules}
use Rattle.std.proofs.lemmas.Result.{on_ok_weaker}
use Rattle.yasna_base.specs.Set.{set_tag}
use Rattle.asn1der_convert.proofs.SetOrder.{put_already, put_one_tag}
use Rattle.asn1der_convert.proofs.set_order.put_in_order.Goals as goal

pub returns-then-are_in_order-clause-sorted : goal.returns-then-are_in_order-clause-sorted
returns-then-are_in_order-clause-sorted c =
    let is : c.args.tag ≡ set_tag = search rules in
    put_already c.args.tag c.args.elements.now is (λ ps a. (c.are_in_order.ensures ps a).0 c.if-are_in_order.true)

pub returns-then-have_one_tag-clause-sorted : goal.returns-then-have_one_tag-clause-sorted
returns-then-have_one_tag-clause-sorted c =
    let is : c.args.tag ≡ set_tag = search rules in
    on_ok_weaker c.sort_elements.result
    (λ f. put_one_tag c.args.tag c.args.elements.now c.sort_elements.new.elements is (λ ps a. (c.have_one_tag.ensures ps a).0 c.if-have_one_tag.true) f)
    c.sort_elements.ensures.sorted
