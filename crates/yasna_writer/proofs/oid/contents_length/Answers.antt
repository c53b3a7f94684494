use Rattle.std.proofs.Common.{arith}
use Rattle.yasna_writer.proofs.Identifiers.{base128_length_at_most}
use Rattle.yasna_writer.proofs.oid.contents_length.Goals as goal

pub overflow_add-result : goal.overflow_add-result
overflow_add-result c =
    let h = base128_length_at_most c.args.first (omega (arith, c.ranges.first)) in
    omega (arith, h, c.base128_length.ensures, c.numbers_length.ensures.few)
