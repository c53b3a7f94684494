use Rattle.std.proofs.Common.{true, refl}
use Rattle.asn1der_convert.proofs.Rows.{one_tag_first, one_tag_none}
use Rattle.asn1der_convert.proofs.elements.have_one_tag.Goals as goal

pub returns-in_default : goal.returns-in_default
returns-in_default c = λ ps a. one_tag_none ps c.args.elements.now true a (c.in_default.ensures {u = tt}) refl

pub returns : goal.returns
returns c = λ ps a. one_tag_first ps c.args.elements.now _ _ c.all_have_tag.result a (c.in-Some.ensures {u = tt}) c.all_have_tag.ensures
