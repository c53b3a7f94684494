use Rattle.yasna_base.proofs.Digits.{slice_bytes}
use Rattle.asn1der_typed.proofs.Appending.{boolean_of}
use Rattle.asn1der_typed.proofs.values.append_boolean.Goals as goal

pub returns : goal.returns
returns c =
    let contents = c.args.contents.now in
    boolean_of contents c.truth_byte.result c.args.identifier_bytes.now c.args.out.now.items c.append_element.new.out.items c.in-len1.len_at_least c.in-len1.len_below
    (slice_bytes contents c.type_inv.contents) c.truth_byte.ensures (c.in_ok-append_element.ensures {u = tt})
