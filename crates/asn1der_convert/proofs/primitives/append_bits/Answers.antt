use Rattle.std.proofs.lemmas.Result.{on_ok_weaker}
use Rattle.asn1der_convert.proofs.WholeBits.{bits_cleared}
use Rattle.asn1der_convert.proofs.primitives.append_bits.Goals as goal

pub returns : goal.returns
returns c =
    on_ok_weaker c.clear_unused.result
    (λ e. bits_cleared c.args.unused c.args.identifier_bytes.now c.args.bytes.now c.args.out.now.items c.append_element.new.out.items c.clear_unused.new.bytes.items c.requires.none_of_none
    (c.in_ok-append_element.ensures {u = tt}) e)
    c.clear_unused.ensures
