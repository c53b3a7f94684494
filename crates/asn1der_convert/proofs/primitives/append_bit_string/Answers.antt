use Rattle.std.proofs.lemmas.Result.{on_ok_weaker}
use Rattle.asn1der_convert.proofs.Appends.{bits_put}
use Rattle.asn1der_convert.proofs.primitives.append_bit_string.Goals as goal

pub returns : goal.returns
returns c =
    on_ok_weaker c.append_contents.result
    (λ e. bits_put c.unused_bits-unused.result _ c.args.identifier_bytes.now c.args.bytes.items c.clear_unused.new.bytes.items c.insert.new.self.items c.args.out.now.items
    c.append_contents.new.out.items c.unused_bits-unused.ensures (c.in_ok-clear_unused.ensures {u = tt}) (c.in_ok-insert.ensures {u = tt}).items e)
    c.append_contents.ensures
