use Rattle.std.proofs.lemmas.Result.{on_ok_weaker}
use Rattle.asn1der_convert.proofs.Appends.{encloses_with}
use Rattle.asn1der_convert.proofs.conversion.enclose.Goals as goal

pub returns : goal.returns
returns c =
    on_ok_weaker c.enclose_contents.result
    (λ added. encloses_with c.args.tag c.args.identifier_bytes.now c.args.out.now.items c.as_mut_slice-bytes.result.now c.put_in_order.new.elements c.args.out.now.items
    c.as_slice.result.now c.enclose_contents.new.out.items c.args.start c.args.out.now.len c.args.offset c.args.ambiguities.now c.note.new.self c.requires.bytes c.requires.within
    c.as_mut_slice-bytes.ensures.value c.as_mut_slice-bytes.ensures.len c.in_ok-put_in_order.ensures.len c.in_ok-put_in_order.ensures.sorted c.as_slice.ensures.value c.note.ensures added)
    c.enclose_contents.ensures
