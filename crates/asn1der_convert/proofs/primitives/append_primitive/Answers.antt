use Rattle.std.proofs.Common.{◌≡◌, length, rules, IsTrue, subst, ap, ◌∙◌, ◌++◌}
use Rattle.yasna_base.specs.Length.{shortest_length}
use Rattle.yasna_base.specs.declared.mode.BERMode.TheVariants.{Ber}
use Rattle.asn1_contents.specs.Contents.{HasContents}
use Rattle.asn1der_convert.proofs.Appends.{plain_contents}
use Rattle.asn1der_convert.proofs.primitives.append_primitive.Goals as goal

pub returns-then-are_plain-clause-bytes : goal.returns-then-are_plain-clause-bytes
returns-then-are_plain-clause-bytes c =
    let yes : IsTrue c.are_plain.result = search rules in
    record {
      contents = c.args.contents.now;
      meaning = plain_contents c.args.contents_type c.args.contents.now (c.are_plain.ensures.0 yes);
      bytes = c.in_ok-append_element.ensures {u = tt};
    }

pub returns-clause-bytes : goal.returns-clause-bytes
returns-clause-bytes c =
    let d = c.in-Some.converted.items in
    let i = c.args.identifier_bytes.now in
    let out = c.args.out.now.items in
    let new = c.append_element-2.new.out.items in
    let found = rw c.in-Some.is at (c.in_ok-converted.ensures {u = tt}) in
    let copied = (c.in_ok-extend_from_slice.ensures {u = tt}).items ∙ ap (λ z. z ++ c.args.contents.now) c.new-copy.ensures.items in
    record {
      contents = d;
      meaning = subst (λ z. HasContents c.args.contents_type Ber d z) copied found;
      bytes = subst (λ z. new ≡ out ++ (i ++ (shortest_length (length z) ++ z))) c.deref.ensures.value (c.in_ok-append_element-2.ensures {u = tt});
    }
