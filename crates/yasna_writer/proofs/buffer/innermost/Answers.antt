use Rattle.std.proofs.Common.{ap, sym, ◌∙◌}
use Rattle.yasna_writer.specs.declared.buffer.SlotState.TheVariants.{Waits}
use Rattle.yasna_writer.proofs.Buffers.{innermost_at}
use Rattle.yasna_writer.proofs.buffer.innermost.Goals as goal

pub returns-in-Waits : goal.returns-in-Waits
returns-in-Waits c =
    innermost_at c.args.slots.now c.args.opened c.in_ok-slot.slot c.args.waits c.in-Waits.headers (sym (c.in_ok-slot.ensures {u = tt}))
    (c.in-Waits.is ∙ ap (λ d. Waits d c.in-Waits.headers) c.if-depth-waits.true) c.if-slot-opened.true c.if-headers-opened.true
