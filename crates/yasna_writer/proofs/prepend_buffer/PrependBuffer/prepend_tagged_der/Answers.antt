use Rattle.std.proofs.Common.{ℕ, List, ◌++◌, length, ap, ap₂, ◌∙◌}
use Rattle.yasna_base.specs.declared.mode.BERMode.{BERMode}
use Rattle.yasna_base.specs.declared.tag.PCBit.{PCBit}
use Rattle.yasna_base.specs.Raw.{raw_encoding}
use Rattle.yasna_base.specs.TaggedDerValue.{raw_of}
use Rattle.yasna_writer.specs.Header.{raw_header}
use Rattle.yasna_writer.specs.Prepend.{Prepended}
use Rattle.yasna_writer.proofs.Prepends.{prepends_both}
use Rattle.yasna_writer.proofs.RawElements.{raw_written}
use Rattle.yasna_writer.proofs.prepend_buffer.PrependBuffer.prepend_tagged_der.Goals as goal

pub returns : goal.returns
returns c =
    let old = c.args.self.now in
    let v = raw_of c.args.value.now in
    let t = c.args.tag in
    let payload = c.value-payload.result.now in
    let left = c.in_ok-prepend_many.ensures {u = tt} in
    prepends_both _ payload _ old c.prepend_many.new.self c.prepend_raw_header.new.self c.prepend_raw_header.result left c.prepend_raw_header.ensures
    (ap (λ (m : BERMode). raw_header m c.pcbit.result (record { tag = t; length = length payload }) ++ payload) (ap (λ (p : Prepended). p.mode) left)
    ∙ raw_written old.mode t v.tag c.pcbit.result payload
    ∙ ap₂ (λ (p : PCBit) (b : List ℕ). raw_encoding t old.mode (record { tag = v.tag; bit = p; payload = b })) c.pcbit.ensures c.value-payload.ensures)
