use Rattle.std.proofs.Common.{ℕ, List, sym, ap, ap₂, ◌∙◌}
use Rattle.yasna_base.specs.declared.mode.BERMode.{BERMode}
use Rattle.yasna_base.specs.declared.tag.PCBit.{PCBit}
use Rattle.yasna_base.specs.declared.tag.Tag.{Tag}
use Rattle.yasna_base.specs.Identifier.{tag_or}
use Rattle.yasna_base.specs.Raw.{raw_encoding}
use Rattle.yasna_base.specs.TaggedDerValue.{raw_of}
use Rattle.yasna_writer.specs.View.{Written}
use Rattle.yasna_writer.proofs.Primitives.{wrote_by, appended_both}
use Rattle.yasna_writer.proofs.RawElements.{raw_written}
use Rattle.yasna_writer.proofs.state.Writer.write_tagged_der.Goals as goal

pub returns : goal.returns
returns c =
    let old = c.args.self.now in
    let v = raw_of c.args.value.now in
    let t = tag_or old.tag v.tag in
    let taken = c.take_tag-tag.ensures.taken in
    let mid = c.take_tag-tag.new.self in
    let payload = c.value-payload.result.now in
    let own = c.take_tag-tag.ensures.tag ∙ ap (λ (u : Tag). tag_or old.tag u) c.tag.ensures in
    let piece =
    raw_written mid.mode c.take_tag-tag.result v.tag c.pcbit.result payload
    ∙ ap₂ (λ (m : BERMode) (u : Tag). raw_encoding u m (record { tag = v.tag; bit = c.pcbit.result; payload = payload })) (ap (λ (w : Written). w.mode) taken) own
    ∙ ap₂ (λ (p : PCBit) (b : List ℕ). raw_encoding t old.mode (record { tag = v.tag; bit = p; payload = b })) c.pcbit.ensures c.value-payload.ensures in
    wrote_by _ _ old mid c.append.new.self c.append.result (sym c.failed.ensures ∙ c.in_default.is) taken piece
    (appended_both mid c.append_raw_header.new.self c.append.new.self c.append.result _ _ (c.in_ok-append_raw_header.ensures {u = tt}) c.append.ensures)
