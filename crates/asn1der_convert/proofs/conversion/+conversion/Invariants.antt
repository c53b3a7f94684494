use Rattle.std.proofs.Common.{◌≡◌, ◌+◌, ◌*◌, length}
use Rattle.asn1der_convert.proofs.Ambiguities.{Written}
use Rattle.asn1der_convert.proofs.conversion.+conversion.Given as goal

abbrev pub decreases-convert_contents : goal.decreases-convert_contents
decreases-convert_contents l = 4 * l.contents.levels + 3

abbrev pub decreases-convert_element : goal.decreases-convert_element
decreases-convert_element l = 4 * l.cursor.levels + 2

abbrev pub decreases-convert_other : goal.decreases-convert_other
decreases-convert_other l = 4 * l.cursor.levels + 1

abbrev pub decreases-convert_constructed : goal.decreases-convert_constructed
decreases-convert_constructed l = 4 * l.cursor.levels

abbrev pub invariant-convert_contents-loop-after : goal.invariant-convert_contents-loop-after
invariant-convert_contents-loop-after l = record {
  mode : l.place.mode ≡ l.contents.mode;
  levels : l.place.levels ≡ l.contents.levels;
  written : Written l.contents.levels l.contents.mode l.contents.left.now l.place.left.now l.initial.out.items l.out.items l.initial.ambiguities l.ambiguities;
}

abbrev pub decreases-convert_contents-loop-after : goal.decreases-convert_contents-loop-after
decreases-convert_contents-loop-after l = length l.place.left.now
