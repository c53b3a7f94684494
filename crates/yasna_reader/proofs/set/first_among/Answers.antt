use Rattle.std.proofs.Common.{arith}
use Rattle.yasna_reader.proofs.SetChoosing.{among_more, among_here, among_end}
use Rattle.yasna_reader.proofs.set.first_among.Goals as goal

pub returns-then-is_among : goal.returns-then-is_among
returns-then-is_among c =
    among_here c.args.tags.now c.args.list.now.items c.loop-place.place c.index.result.now c.loop-place.invariant
    (omega (arith, c.args.list.now.ok.0)) c.index.ensures (c.is_among.ensures.0 c.if-is_among.true)

pub loop-place-preserved : goal.loop-place-preserved
loop-place-preserved c =
    among_more c.args.tags.now c.args.list.now.items c.loop-place.place c.index.result.now c.loop-place.invariant
    (omega (arith, c.args.list.now.ok.0)) c.index.ensures (λ h. let e = c.is_among.ensures.1 h in let f = c.if-is_among.false in absurd (cc))

pub returns : goal.returns
returns c = among_end c.args.tags.now c.args.list.now.items c.loop-place.place (omega (arith, c.args.list.now.ok.0)) c.loop-place.invariant
