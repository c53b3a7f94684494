use Rattle.std.proofs.Common.{[], ◌∷◌, ◌++◌, refl, arith, length-append}
use Rattle.yasna_writer.proofs.Prepends.{both_prepended, prepends_both, header_of_length}
use Rattle.yasna_writer.proofs.prepend_buffer.PrependBuffer.prepend_bits.Goals as goal

pub returns : goal.returns
returns c =
    let old = c.args.self.now in
    let last = c.args.last ∷ [] in
    let bytes = c.args.prefix.now ++ last in
    let contents = c.args.unused ∷ bytes in
    let both = both_prepended c.args.prefix.now last bytes old c.prepend.new.self c.prepend_many.new.self (c.in_ok-prepend.ensures {u = tt})
    (c.in_ok-prepend_many.ensures {u = tt}) refl in
    let all = both_prepended (c.args.unused ∷ []) bytes contents old c.prepend_many.new.self c.prepend-2.new.self both (c.in_ok-prepend-2.ensures {u = tt}) refl in
    prepends_both _ contents _ old c.prepend-2.new.self c.prepend_header.new.self c.prepend_header.result all c.prepend_header.ensures
    (header_of_length old.mode c.args.tag _ contents (omega (arith, length-append c.args.prefix.now last)))
