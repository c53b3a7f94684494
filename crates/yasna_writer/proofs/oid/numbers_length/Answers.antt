use Rattle.std.proofs.Common.{arith, get_or}
use Rattle.yasna_writer.proofs.Identifiers.{base128_length_at_most, numbers_length_more}
use Rattle.yasna_writer.proofs.oid.numbers_length.Goals as goal

pub overflow_add-octets : goal.overflow_add-octets
overflow_add-octets c =
    let i = c.loop-number.invariant in
    let n = get_or c.args.numbers.now c.loop-number.number-index 0 in
    let h = base128_length_at_most n (let f = c.type_inv.numbers c.loop-number.number-index in omega arith) in
    let e = c.base128_length-octets.ensures in
    omega (arith, i.1, e, h, c.loop-number-test.true)

pub loop-number-preserved : goal.loop-number-preserved
loop-number-preserved c =
    let i = c.loop-number.invariant in
    let n = get_or c.args.numbers.now c.loop-number.number-index 0 in
    let h = base128_length_at_most n (let f = c.type_inv.numbers c.loop-number.number-index in omega arith) in
    let e = c.base128_length-octets.ensures in
    (omega (arith, i.0, e, numbers_length_more c.args.numbers.now c.loop-number.number-index c.loop-number-test.true), omega (arith, i.1, e, h))
