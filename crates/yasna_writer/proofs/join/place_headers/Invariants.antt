use Rattle.std.proofs.Common.{◌≡◌, ◌≤◌, ◌+◌, ◌++◌, length, take, drop}
use Rattle.yasna_writer.specs.Buffer.{headers_length, joined, AreInOrder}
use Rattle.yasna_writer.proofs.join.place_headers.Given as goal

abbrev pub invariant-loop-slot : goal.invariant-loop-slot
invariant-loop-slot l = record {
  ordered : AreInOrder 0 l.slots l.from;
  room : l.to ≡ l.from + headers_length l.large l.slots;
  within : l.to ≤ length l.bytes;
  joins : joined l.large l.fn.slots (take l.length l.fn.bytes) ≡ joined l.large l.slots (take l.from l.bytes) ++ drop l.to l.bytes;
}

abbrev pub decreases-loop-slot : goal.decreases-loop-slot
decreases-loop-slot l = length l.slots
