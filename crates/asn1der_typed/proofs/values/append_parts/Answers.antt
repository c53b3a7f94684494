use Rattle.std.proofs.Common.{◌≡◌, length, ap, rules}
use Rattle.yasna_bytes.specs.Opening.{Opening, end_found}
use Rattle.asn1der_typed.proofs.Appending.{parts_enclosed}
use Rattle.asn1der_typed.proofs.values.append_parts.Goals as goal

pub returns : goal.returns
returns c =
    let cursor = c.args.cursor in
    let inside = c.inside in
    let opened = c.in-Ok.opened in
    let start : c.len-start.result ≡ length c.args.out.now.items = search rules in
    parts_enclosed c.args.tag cursor.levels inside.result.levels c.len-start.result cursor.mode inside.result.mode cursor.left.now opened.contents inside.result.left.now
    c.in_ok-append_elements.field-0.now c.args.identifier_bytes.now c.args.out.now.items c.append_elements.new.out.items c.enclose_contents.new.out.items opened.end
    (end_found c.opened.inside.end) c.requires.levels c.requires.mode inside.ensures.mode inside.ensures.levels inside.ensures.left
    (ap (λ (o : Opening). o.end) c.opened.view_is) start (c.in-Ok.ensures {u = tt}).1 (c.in_ok-append_elements.ensures {u = tt})
    (c.in_ok-enclose_contents.ensures {u = tt})
