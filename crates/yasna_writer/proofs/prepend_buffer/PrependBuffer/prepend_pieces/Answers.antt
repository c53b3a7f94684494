use Rattle.std.proofs.Common.{◌++◌, refl, arith, length-append}
use Rattle.yasna_writer.proofs.Prepends.{both_prepended, prepends_both, header_of_length}
use Rattle.yasna_writer.proofs.prepend_buffer.PrependBuffer.prepend_pieces.Goals as goal

pub returns : goal.returns
returns c =
    let old = c.args.self.now in
    let prefix = c.args.prefix.now in
    let rest = c.args.rest.now in
    let all = both_prepended prefix rest (prefix ++ rest) old c.prepend_many.new.self c.prepend.new.self (c.in_ok-prepend_many.ensures {u = tt})
    (c.in_ok-prepend.ensures {u = tt}) refl in
    prepends_both _ (prefix ++ rest) _ old c.prepend.new.self c.prepend_header.new.self c.prepend_header.result all c.prepend_header.ensures
    (header_of_length old.mode c.args.tag _ (prefix ++ rest) (omega (arith, length-append prefix rest)))
