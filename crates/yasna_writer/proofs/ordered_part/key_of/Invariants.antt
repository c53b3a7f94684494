use Rattle.std.proofs.Common.{◌-◌, ◌≡◌, ◌≤◌}
use Rattle.yasna_writer.specs.SortKey.{key_number}
use Rattle.yasna_writer.proofs.ordered_part.key_of.Given as goal

abbrev pub invariant-loop-place : goal.invariant-loop-place
invariant-loop-place l = (l.key ≡ key_number l.place l.fn.bytes) × (l.place ≤ 8)

abbrev pub decreases-loop-place : goal.decreases-loop-place
decreases-loop-place l = 8 - l.place
