use Rattle.yasna_writer.proofs.Prepends.{prepends_both, header_before}
use Rattle.yasna_writer.proofs.prepend_buffer.PrependBuffer.prepend_primitive.Goals as goal

pub returns : goal.returns
returns c =
    let old = c.args.self.now in
    prepends_both _ c.args.contents.now _ old c.prepend_many.new.self c.prepend_header.new.self c.prepend_header.result (c.in_ok-prepend_many.ensures {u = tt}) c.prepend_header.ensures
    (header_before old.mode c.args.tag c.args.contents.now)
