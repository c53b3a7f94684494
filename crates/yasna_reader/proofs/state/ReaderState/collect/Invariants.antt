use Rattle.std.proofs.Common.{length}
use Rattle.std.specs.Fn.{CalledAtMut}
use Rattle.yasna_reader.specs.SetOf.{TurnInOrder, bound_in, bound_bytes}
use Rattle.yasna_reader.proofs.ListTurns.{SoFar}
use Rattle.yasna_reader.proofs.state.ReaderState.collect.Given as goal

abbrev pub invariant-loop-items : goal.invariant-loop-items
invariant-loop-items g l =
    SoFar (TurnInOrder (CalledAtMut g.F.FnMut)) (record { callback = l.fn.f; bound = bound_in l.fn.order l.fn.self.mode }) l.fn.self l.items.items
    (record { callback = l.f; bound = bound_bytes l.bound }) l.self

abbrev pub decreases-loop-items : goal.decreases-loop-items
decreases-loop-items g l = length l.self.left
