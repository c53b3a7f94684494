use Rattle.std.proofs.Common.{◌≡◌, ◌+◌, ◌*◌, length}
use Rattle.yasna_bytes.proofs.Segments.{Reached}
use Rattle.yasna_bytes.proofs.bytes.segments.+string.Given as goal

abbrev pub decreases-element : goal.decreases-element
decreases-element g l = 2 * l.cursor.levels

abbrev pub decreases-segments : goal.decreases-segments
decreases-segments g l = 2 * l.contents.levels + 1

abbrev pub invariant-segments-loop-out : goal.invariant-segments-loop-out
invariant-segments-loop-out g l = record {
  levels : l.place.levels ≡ l.contents.levels;
  mode : l.place.mode ≡ l.contents.mode;
  reached : Reached g.T.Tally.segmentation g.T.Tally.value l.contents.levels l.contents.mode l.contents.left.now l.tally l.cuts l.place.left.now l.fn.out.items
      l.out.items;
}

abbrev pub decreases-segments-loop-out : goal.decreases-segments-loop-out
decreases-segments-loop-out g l = length l.place.left.now
