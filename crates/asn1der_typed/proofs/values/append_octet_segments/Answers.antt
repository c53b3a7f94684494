use Rattle.std.proofs.Common.{ap, ◌∙◌}
use Rattle.std.proofs.lemmas.Result.{on_ok_weaker}
use Rattle.asn1_contents.specs.ContentsType.{type_with}
use Rattle.asn1der_typed.specs.Appending.{universal_tag}
use Rattle.asn1der_typed.proofs.Appending.{octets_read}
use Rattle.asn1der_typed.proofs.values.append_octet_segments.Goals as goal

pub returns-in-Ok : goal.returns-in-Ok
returns-in-Ok c =
    let cursor = c.args.cursor in
    on_ok_weaker c.append_string.result
    (λ x. octets_read c.contents_type-own.result (universal_tag c.args.value) c.args.tag cursor.levels cursor.mode cursor.left.now c.in-Ok.octets.items c.in-Ok._rest.now
    c.args.identifier_bytes.now c.args.out.now.items c.append_string.new.out.items c.requires.levels c.requires.mode
    (c.contents_type-own.ensures ∙ ap type_with c.tag_of.ensures) (c.in-Ok.ensures {u = tt}) x)
    c.append_string.ensures.bytes
