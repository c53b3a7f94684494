use Rattle.std.proofs.Common.{arith}
use Rattle.yasna_base.proofs.Lists.{empty_is}
use Rattle.yasna_base.proofs.Identifier.{nothing_there, short_identifier}
use Rattle.yasna_base.proofs.bytes.identifier.read_identifier.Goals as goal

pub returns-in_default : goal.returns-in_default
returns-in_default c = (tt, nothing_there c.args.s.now (empty_is c.args.s.now (c.in_default.ensures {u = tt}).cases))

pub returns-then-low-lt31 : goal.returns-then-low-lt31
returns-then-low-lt31 c =
    let e = c.from.ensures in
    short_identifier c.args.s.now c.in-Some.first.now c.in-Some.rest.now c.leading-tag_class.result.0 c.leading-tag_class.result.1 c.from.result
    (c.in-Some.ensures {u = tt}).cases.0 (rw e c.leading-tag_class.ensures.parts) (omega arith)
