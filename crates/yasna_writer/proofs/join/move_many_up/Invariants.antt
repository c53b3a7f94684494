use Rattle.std.proofs.Common.{◌≡◌, ◌≤◌, ◌-◌, length, slice_range}
use Rattle.yasna_writer.specs.Put.{PutBefore}
use Rattle.yasna_writer.proofs.join.move_many_up.Given as goal

abbrev pub invariant-loop-from : goal.invariant-loop-from
invariant-loop-from l = record {
  left : l.start ≤ l.from;
  within : l.from ≤ l.end;
  put : PutBefore (slice_range l.fn.bytes l.from l.end) l.to l.fn.bytes l.bytes l.place;
  len : length l.bytes ≡ length l.fn.bytes;
}

abbrev pub decreases-loop-from : goal.decreases-loop-from
decreases-loop-from l = l.from - l.start
