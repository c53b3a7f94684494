use Rattle.std.proofs.Common.{ap, ◌∙◌}
use Rattle.smallvec.specs.SmallVec.{SmallVec}
use Rattle.yasna_writer.specs.declared.buffer.Slot.{Slot}
use Rattle.yasna_writer.proofs.slots.put_after.Goals as goal

pub returns-in-Ok-push : goal.returns-in-Ok-push
returns-in-Ok-push c = record {
  vec = c.in-Ok.block;
  holds = (c.in-Ok.ensures {u = tt}).ok ∙ ap (λ (v : SmallVec Slot). v.items) c.replace.ensures.value;
  after = (c.in-Ok-push.ensures {u = tt}).items;
  empty = ap (λ (v : SmallVec Slot). v.items) c.replace.ensures.after ∙ c.new.ensures.items;
}
