use Rattle.yasna_base.proofs.Lists.{empty_is}
use Rattle.yasna_bytes.proofs.Length.{nothing_measured, short_measured}
use Rattle.yasna_bytes.proofs.bytes.length.read_length.Goals as goal

pub returns-in_default : goal.returns-in_default
returns-in_default c = (tt, nothing_measured c.args.mode c.args.s.now (empty_is c.args.s.now (c.in_default.ensures {u = tt}).cases))

pub returns-then-first-lt128 : goal.returns-then-first-lt128
returns-then-first-lt128 c = rw c.from.ensures
    (short_measured c.args.mode c.in-Some.first.now c.args.s.now c.in-Some.rest.now (c.in-Some.ensures {u = tt}).cases.0 c.if-first-lt128.true)
