use Rattle.yasna_base.specs.Digits.{base128}
use Rattle.yasna_writer.proofs.Prepends.{item_prepended}
use Rattle.yasna_writer.proofs.prepend_buffer.PrependBuffer.prepend_numbers.Goals as goal

pub loop-last-preserved : goal.loop-last-preserved
loop-last-preserved c =
    item_prepended (λ m. base128) c.loop-last.rest.now c.in-Some.others.now c.in-Some.last.now c.loop-last.self c.prepend_number.new.self _
    c.in-Some.ensures.cases.0 (c.in_ok-prepend_number.ensures {u = tt}) c.loop-last.invariant
