use Rattle.std.proofs.Common.{◌++◌, ap, ◌∙◌}
use Rattle.yasna_writer.specs.View.{Written}
use Rattle.yasna_writer.proofs.Appends.{append_item}
use Rattle.yasna_writer.proofs.state.Writer.append_parts.Goals as goal

pub loop-part-preserved : goal.loop-part-preserved
loop-part-preserved g c =
    let old = c.args.self.now in
    let i = c.loop-part.invariant in
    let bytes = ap (λ b. c.loop-part.self.bytes ++ b) (c.as_slice.ensures ∙ ap g.P.AsSlice.items c.part-item.is)
    ∙ append_item g.P.AsSlice.items c.args.parts.now c.loop-part.part-index c.part-item.result old.bytes c.loop-part.self.bytes c.loop-part-test.true
    (ap (λ (w : Written). w.bytes) i) in
    c.in_ok-append.ensures {u = tt} ∙ ap (λ (w : Written). record w { bytes = c.loop-part.self.bytes ++ c.as_slice.result.now }) i
    ∙ ap (λ b. record old { bytes = b }) bytes
