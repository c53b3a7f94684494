use Rattle.std.proofs.Common.{rules, IsTrue}
use Rattle.asn1der_convert.proofs.Ambiguities.{segments_octets, segments_bits}
use Rattle.asn1der_convert.proofs.ambiguity.are_segments.Goals as goal

pub returns-then-all_have_tag : goal.returns-then-all_have_tag
returns-then-all_have_tag c = λ ps a.
    let yes : IsTrue c.all_have_tag.result = search rules in
    segments_octets ps (IsTrue c.all_have_tag.result) yes (c.all_have_tag.ensures ps a)

pub returns-else-all_have_tag : goal.returns-else-all_have_tag
returns-else-all_have_tag c = λ ps a.
    let not_octets : IsTrue c.all_have_tag.result → ⊥ = search rules in
    segments_bits ps (IsTrue c.all_have_tag.result) (IsTrue c.all_have_tag-else-all_have_tag.result) not_octets (c.all_have_tag.ensures ps a)
    (c.all_have_tag-else-all_have_tag.ensures ps a)
