use Rattle.std.proofs.Common.{length}
use Rattle.yasna_writer.specs.Parts.{ordered_bytes}
use Rattle.yasna_writer.proofs.PartOrders.{CutSoFar}
use Rattle.yasna_writer.proofs.order_parts.cut_parts.Given as goal

abbrev pub invariant-loop-len : goal.invariant-loop-len
invariant-loop-len l = CutSoFar l.fn.lens l.fn.bytes (ordered_bytes l.parts.items) l.others l.rest

abbrev pub decreases-loop-len : goal.decreases-loop-len
decreases-loop-len l = length l.others
