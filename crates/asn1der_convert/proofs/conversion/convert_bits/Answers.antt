use Rattle.asn1der_convert.specs.WholeBits.{unused_with}
use Rattle.asn1der_convert.proofs.WholeBits.{whole_bits_appended}
use Rattle.asn1der_convert.proofs.conversion.convert_bits.Goals as goal

pub returns : goal.returns
returns c =
    let x = c.in-Some.ensures {u = tt} in
    whole_bits_appended c.args.cursor.levels c.args.cursor.mode c.args.cursor.left.now c.in-Some.rest.now c.args.out.now.items c.append_bits.new.out.items
    (unused_with (c.in-Some.unused, c.in-Some.bytes)) x.0 x.1 (c.in_ok-append_bits.ensures {u = tt})
