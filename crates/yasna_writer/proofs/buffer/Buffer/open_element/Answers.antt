use Rattle.std.proofs.Common.{◌≡◌, ◌+◌, List, length, subst, ap, sym, ◌∙◌, arith}
use Rattle.yasna_writer.specs.declared.buffer.Slot.{Slot}
use Rattle.yasna_writer.specs.Buffer.{header_of_state, joined, AreSlots}
use Rattle.yasna_writer.proofs.Buffers.{slots_begin, joined_begin}
use Rattle.yasna_writer.proofs.buffer.Buffer.open_element.Goals as goal

pub invariant_of-self : goal.invariant_of-self
invariant_of-self c =
    let d = c.self.inside in
    let pushed = (c.in-Ok.ensures {u = tt}) in
    let place : c.len-place.result ≡ length d.contents.items = omega (arith, c.len-place.ensures) in
    subst (λ (es : List Slot). AreSlots d.large.items es (length d.contents.items) d.headers (d.waits + 1)) (sym pushed)
    (slots_begin d.large.items d.slots c.in-Some.state c.len-place.result (length d.contents.items) d.headers d.waits c.self.invariant place
    (c.in-Some.ensures {u = tt}).1)

pub returns-in-Ok-clause-same : goal.returns-in-Ok-clause-same
returns-in-Ok-clause-same c =
    let d = c.self.inside in
    let pushed = (c.in-Ok.ensures {u = tt}) in
    ap (λ (es : List Slot). joined d.large.items es d.contents.items) pushed
    ∙ joined_begin d.large.items d.slots c.in-Some.state c.len-place.result d.contents.items
    (ap (header_of_state d.large.items) (c.in-Some.ensures {u = tt}).1)
    ∙ c.self.view_is
