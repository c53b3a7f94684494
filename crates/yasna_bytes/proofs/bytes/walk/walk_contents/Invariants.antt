use Rattle.std.proofs.Common.{◌≡◌, ◌+◌, ◌-◌, ◌*◌, length}
use Rattle.yasna_bytes.proofs.WalkEnds.{Walking}
use Rattle.yasna_bytes.proofs.bytes.walk.walk_contents.Given as goal

abbrev pub invariant-loop-after : goal.invariant-loop-after
invariant-loop-after l =
    (length l.outer ≡ 100)
    × Walking l.fn.cursor.mode l.fn.outermost.end l.fn.cursor.levels l.fn.cursor.left.now l.outer l.trailing l.levels l.left

abbrev pub decreases-loop-after : goal.decreases-loop-after
decreases-loop-after l = 2 * (length l.left + l.trailing) + (l.fn.cursor.levels - l.levels)
