use Rattle.std.proofs.Common.{◌+◌, ◌-◌, List, subst, sym, ap, ◌∙◌, length, arith}
use Rattle.yasna_writer.specs.declared.buffer.Slot.{Slot}
use Rattle.yasna_writer.specs.declared.header.PartsHeader.{PartsHeader}
use Rattle.yasna_writer.specs.Header.{parts_header, header_of}
use Rattle.yasna_writer.specs.Buffer.{AreSlots, joined, with_header}
use Rattle.yasna_writer.proofs.Buffers.{takes, waits_some}
use Rattle.yasna_writer.proofs.buffer.Buffer.place_header.Goals as goal

pub overflow_sub-self : goal.overflow_sub-self
overflow_sub-self c =
    let d = c.self.inside in
    let i = c.in-Some.ensures {u = tt} in
    waits_some d.large.items d.slots c.args.opened c.in-Some.place (length d.contents.items) d.headers d.waits c.self.invariant i

pub invariant_of-self : goal.invariant_of-self
invariant_of-self c =
    let d = c.self.inside in
    subst (λ (ls : List PartsHeader). AreSlots ls d.slots (length d.contents.items) d.headers d.waits)
    (sym (c.in_default-state_of.ensures {u = tt})) c.self.invariant

pub invariant_of-self-2 : goal.invariant_of-self-2
invariant_of-self-2 c =
    let d = c.self.inside in
    let b = c.args.opened in
    let i = c.in-Some.ensures {u = tt} in
    let k = c.in-Ok.ensures {u = tt} in
    let y : Slot = record { place = c.in-Some.place; state = c.in-Ok.state } in
    let written = c.set.ensures in
    subst (λ (es : List Slot). AreSlots c.state_of.new.large.items es (length d.contents.items) (d.headers + c.parts_header_length.result) (d.waits - 1))
    (sym written)
    (takes d.large.items c.state_of.new.large.items k.0 d.slots b (header_of b.tag c.args.length) c.in-Ok.state c.in-Some.place d.headers
    (d.headers + c.parts_header_length.result) d.waits d.contents.items c.self.invariant i k.1 k.2
    (ap (λ n. d.headers + n) c.parts_header_length.ensures.octets) (omega (arith, c.if-headers.false))).slots

pub returns : goal.returns
returns c =
    let d = c.self.inside in
    let b = c.args.opened in
    let i = c.in-Some.ensures {u = tt} in
    let k = c.in-Ok.ensures {u = tt} in
    let y : Slot = record { place = c.in-Some.place; state = c.in-Ok.state } in
    let written = c.set.ensures in
    let taken = takes d.large.items c.state_of.new.large.items k.0 d.slots b (header_of b.tag c.args.length) c.in-Ok.state c.in-Some.place d.headers
    (d.headers + c.parts_header_length.result) d.waits d.contents.items c.self.invariant i k.1 k.2
    (ap (λ n. d.headers + n) c.parts_header_length.ensures.octets) (omega (arith, c.if-headers.false)) in
    ap (λ (es : List Slot). joined c.state_of.new.large.items es d.contents.items) written ∙ taken.joins
    ∙ ap (λ v. with_header b.start (parts_header (header_of b.tag c.args.length)) v) c.self.view_is
