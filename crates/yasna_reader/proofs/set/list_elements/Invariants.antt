use Rattle.std.proofs.Common.{◌≡◌, length}
use Rattle.yasna_reader.specs.SetList.{Listed}
use Rattle.yasna_reader.proofs.set.list_elements.Given as goal

abbrev pub invariant-loop-element : goal.invariant-loop-element
invariant-loop-element l = Listed l.fn.cursor.levels l.fn.cursor.mode l.list.items l.fn.cursor.left.now l.here.left.now
    × (l.here.mode ≡ l.fn.cursor.mode) × (l.here.levels ≡ l.fn.cursor.levels)

abbrev pub decreases-loop-element : goal.decreases-loop-element
decreases-loop-element l = length l.here.left.now
