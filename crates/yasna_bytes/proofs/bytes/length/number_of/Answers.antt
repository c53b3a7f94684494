use Rattle.std.proofs.Common.{arith}
use Rattle.std.proofs.lemmas.Int.Digits.{number_more}
use Rattle.yasna_bytes.proofs.Length.{grown}
use Rattle.yasna_bytes.proofs.bytes.length.number_of.Goals as goal

pub returns-then-number-ge-LEAST_TOO_LARGE : goal.returns-then-number-ge-LEAST_TOO_LARGE
returns-then-number-ge-LEAST_TOO_LARGE c = let g = grown c.args.digits.now c.loop-digit.digit-index c.loop-digit-test.true in let i =
    c.loop-digit.invariant in omega arith

pub loop-digit-preserved : goal.loop-digit-preserved
loop-digit-preserved c = let m = number_more 256 c.args.digits.now c.loop-digit.digit-index c.loop-digit-test.true in let i = c.loop-digit.invariant in
    let e = c.from.ensures in omega arith
