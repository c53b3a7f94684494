use Rattle.std.proofs.Common.{rules, IsTrue}
use Rattle.asn1_contents.proofs.Contents.{plain_has, plain_none}
use Rattle.asn1_contents.proofs.der_contents.der_contents.Goals as goal

pub returns-then-are_plain : goal.returns-then-are_plain
returns-then-are_plain c =
    let yes : IsTrue c.are_plain.result = search rules in
    plain_has c.args.contents_type c.deref.result.now c.args.contents.items c.deref.ensures.value (c.are_plain.ensures.0 yes)

pub returns-else-are_plain : goal.returns-else-are_plain
returns-else-are_plain c =
    let no : IsTrue c.are_plain.result → ⊥ = search rules in
    plain_none c.args.contents_type c.deref.result.now c.args.contents.items c.in_default.not-UtcTime c.in_default.not-GeneralizedTime c.deref.ensures.value
    (λ x. no (c.are_plain.ensures.1 x))
