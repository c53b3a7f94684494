use Rattle.std.proofs.Common.{List, length}
use Rattle.std.specs.Fn.{CalledAtMut}
use Rattle.yasna_reader.specs.SetOf.{TurnInOrder, bound_in, bound_bytes}
use Rattle.yasna_reader.proofs.ListTurns.{SoFar}
use Rattle.yasna_reader.proofs.state.ReaderState.visit.Given as goal

abbrev pub invariant-loop-f : goal.invariant-loop-f
invariant-loop-f g l =
    (vs : List (Unit {0})) ×
    SoFar (TurnInOrder (CalledAtMut g.F.FnMut)) (record { callback = l.fn.f; bound = bound_in l.fn.order l.fn.self.mode }) l.fn.self vs
    (record { callback = l.f; bound = bound_bytes l.bound }) l.self

abbrev pub decreases-loop-f : goal.decreases-loop-f
decreases-loop-f g l = length l.self.left
