use Rattle.std.proofs.Common.{◌-◌, ◌%◌, refl}
use Rattle.yasna_base.specs.Bits.{bits_tag, padded}
use Rattle.yasna_base.proofs.Bits.{bits_can}
use Rattle.yasna_bytes.specs.Segments.{bits_in}
use Rattle.asn1der_convert.proofs.Appends.{bits_appended}
use Rattle.asn1der_convert.proofs.Rejections.{no_bits}
use Rattle.asn1der_convert.proofs.conversion.convert_bit_segments.Goals as goal

pub returns : goal.returns
returns c =
    let x = c.in-Ok.ensures {u = tt} in
    let v = bits_in c.in-Ok.taken.0 in
    let h = bits_can c.args.cursor.levels c.args.cursor.mode bits_tag v x.prefix x.member in
    let k = (8 - v.count % 8) % 8 in
    bits_appended c.args.cursor.levels c.args.cursor.mode c.args.cursor.left.now c.in-Ok.taken.1.now c.args.out.now.items c.append_bit_string.new.out.items v k
    (padded k v.bytes) x h.enough h.least refl refl (c.in_ok-append_bit_string.ensures {u = tt})

pub returns-in-Err : goal.returns-in-Err
returns-in-Err c = λ known.
    no_bits c.args.cursor.levels c.args.cursor.mode c.args.cursor.left.now c.requires ((c.in-Err.ensures {u = tt}).none (λ k. known (c.string_error.ensures.1 k)))
