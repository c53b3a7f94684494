use Rattle.std.proofs.Common.{◌-◌, ◌%◌, take, refl, ap, subst, ◌∙◌}
use Rattle.yasna_base.specs.Bits.{BitString}
use Rattle.asn1der_typed.specs.Appending.{HasDerCount}
use Rattle.asn1der_typed.proofs.BitStrings.{first_appended, segments_appended, segments_enough}
use Rattle.asn1der_typed.proofs.bits.append_bit_segments.Goals as goal

pub returns : goal.returns
returns c =
    let value = c.args.value in
    let t = c.args.tag in
    let cursor = c.args.cursor in
    let s = cursor.left.now in
    let i = c.args.identifier_bytes.now in
    let out = c.args.out.now.items in
    let new = c.append_bit_string.new.out.items in
    let v : BitString = record { bytes = c.in-Ok.taken.0.0.items; count = c.in-Ok.taken.0.1 } in
    let rest = c.in-Ok.taken.1.now in
    let count = c.der_count-count.result in
    let read = c.in-Ok.ensures {u = tt} in
    let in_der = subst (λ z. HasDerCount value z v.count count) c.deref.ensures.value c.der_count-count.ensures in
    let enough = segments_enough value t cursor.levels cursor.mode v s rest count read in_der in
    let first = c.truncate.ensures.items ∙ ap (λ k. take k v.bytes) c.octets_of.ensures in
    segments_appended value t cursor.levels cursor.mode v s rest i out new count c.requires.levels c.requires.mode read in_der
    (first_appended v.bytes c.truncate.new.self.items i out new count ((8 - count % 8) % 8) enough first refl (c.in_ok-append_bit_string.ensures {u = tt}))
