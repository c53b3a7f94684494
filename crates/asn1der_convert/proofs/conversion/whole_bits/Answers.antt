use Rattle.asn1der_convert.proofs.WholeBits.{no_whole_bits, no_primitive_bits}
use Rattle.asn1der_convert.proofs.conversion.whole_bits.Goals as goal

pub returns-in_default : goal.returns-in_default
returns-in_default c = λ ber h. no_primitive_bits c.args.cursor.levels c.args.cursor.mode c.args.cursor.left.now _ _ c.in_default.field-0 (c.in_default.ensures {u = tt}) h

pub returns-in-None : goal.returns-in-None
returns-in-None c = λ ber h.
    no_whole_bits c.args.cursor.levels c.args.cursor.mode c.args.cursor.left.now c.in-Ok.contents.now c.in-Ok.rest.now (c.in-Ok.ensures {u = tt})
    (c.in-None.ensures {u = tt}) h
