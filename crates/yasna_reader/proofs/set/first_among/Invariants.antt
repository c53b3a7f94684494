use Rattle.std.proofs.Common.{◌-◌}
use Rattle.std.specs.List.{AllWithin}
use Rattle.std.specs.VecDeque.{deque_len}
use Rattle.yasna_reader.specs.SetChoice.{IsAmong}
use Rattle.yasna_reader.proofs.set.first_among.Given as goal

-- none before has one of the tags
abbrev pub invariant-loop-place : goal.invariant-loop-place
invariant-loop-place l = AllWithin (λ x. IsAmong l.tags x → ⊥) l.list.items 0 l.place

abbrev pub decreases-loop-place : goal.decreases-loop-place
decreases-loop-place l = deque_len l.list - l.place
