use Rattle.std.proofs.Common.{◌∙◌, arith}
use Rattle.yasna_base.specs.Digits.{base128}
use Rattle.yasna_writer.proofs.Appends.{append_item}
use Rattle.yasna_writer.proofs.oid.push_numbers.Goals as goal

pub loop-number-preserved : goal.loop-number-preserved
loop-number-preserved c =
    let i = c.loop-number.invariant in
    let e = c.in_ok-push_number.ensures {u = tt} in (
      e.items ∙ append_item base128 c.args.numbers.now c.loop-number.number-index 0 c.args.out.now.items _ c.loop-number-test.true i.0,
      omega (arith, i.1, e.grows),
    )
