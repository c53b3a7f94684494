use Rattle.std.proofs.Common.{rules, IsTrue, subst}
use Rattle.asn1_contents.specs.Contents.{ArePlain}
use Rattle.asn1der_convert.proofs.Appends.{plain_contents}
use Rattle.asn1der_convert.proofs.primitives.append_string.Goals as goal

pub returns-then-are_plain-clause-bytes : goal.returns-then-are_plain-clause-bytes
returns-then-are_plain-clause-bytes c =
    let yes : IsTrue c.are_plain.result = search rules in
    record {
      contents = c.args.octets.items;
      meaning = plain_contents c.args.contents_type c.args.octets.items (subst (ArePlain c.args.contents_type) c.deref.ensures.value (c.are_plain.ensures.0 yes));
      bytes = c.in_ok-append_contents.ensures {u = tt};
    }
