use Rattle.std.proofs.Common.{◌≡◌, ◌+◌, ◌-◌, ◌/◌, sym, ap, ◌∙◌, refl, arith}
use lib.Count.{count_leading_zeros}
use Rattle.std.proofs.lemmas.Int.{to_z-of_z}
use Rattle.std.specs.Int.{w64}
use Rattle.yasna_base.specs.Integer.{distance}
use Rattle.yasna_writer.proofs.Integers.{octets_hold}
use Rattle.yasna_writer.proofs.integer.octets.Goals as goal

pub returns : goal.returns
returns c =
    let k = (64 - count_leading_zeros 64 c.distance.result) / 8 in
    let d : c.distance.result ≡ distance c.args.val = c.distance.ensures.distance ∙ ap distance (to_z-of_z w64 c.args.val c.ranges.val) in
    let h = octets_hold c.distance.result k c.distance.ensures.small refl in
    let one : (k + 1) - 1 ≡ k = omega arith in
    let two : (k + 1) - 2 ≡ k - 1 = omega arith in
    record {
      some = omega arith;
      few = omega (arith, h.0);
      fits = rw (one, sym d) (h.1);
      least = λ i. rw (two, sym d) (h.2 (omega (arith, i)));
    }
