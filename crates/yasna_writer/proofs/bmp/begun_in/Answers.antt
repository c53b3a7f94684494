use Rattle.std.proofs.Common.{arith}
use Rattle.std.proofs.lemmas.List.{at_drop_all}
use Rattle.std.specs.List.{sum_by}
use Rattle.yasna_writer.specs.Bmp.{octets_begun}
use Rattle.yasna_writer.proofs.Bmps.{begun_more}
use Rattle.yasna_writer.proofs.bmp.begun_in.Goals as goal

pub overflow_add-sum : goal.overflow_add-sum
overflow_add-sum c =
    let i = c.loop-byte.invariant in
    let m = begun_more c.args.block.now c.loop-byte.byte-index c.loop-byte-test.true in
    omega (arith, i.1, m.1, c.octets_begun-sum.ensures, c.loop-byte-test.true, c.requires)

pub loop-byte-preserved : goal.loop-byte-preserved
loop-byte-preserved c =
    let i = c.loop-byte.invariant in
    let m = begun_more c.args.block.now c.loop-byte.byte-index c.loop-byte-test.true in
    (omega (arith, i.0, m.0, c.octets_begun-sum.ensures), omega (arith, i.1, m.1, c.octets_begun-sum.ensures))

pub returns : goal.returns
returns c =
    omega (
      arith,
      c.loop-byte.invariant.0,
      at_drop_all (sum_by octets_begun) c.args.block.now c.loop-byte.byte-index (omega (arith, c.loop-byte-test.false)),
    )
