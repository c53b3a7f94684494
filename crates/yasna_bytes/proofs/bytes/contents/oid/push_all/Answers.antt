use Rattle.std.proofs.Common.{rules, arith, inr, length, ◌<◌}
use Rattle.yasna_bytes.proofs.Oid.{shorter, reads_none}
use Rattle.yasna_bytes.proofs.bytes.contents.oid.push_all.Goals as goal

pub loop-rest-smaller : goal.loop-rest-smaller
loop-rest-smaller c = shorter c.in-Ok.number c.loop-rest.rest.now c.in-Ok.after.now (c.in-Ok.ensures {u = tt})

pub returns-in-Err : goal.returns-in-Err
returns-in-Err c =
    let e = c.in-Err.ensures {u = tt} in
    let t = c.loop-rest-test.ensures {u = tt} in
    let l : 0 < length c.loop-rest.rest.now = search (arith, rules) in
    inr (
      e.0,
      reads_none c.args.contents.now c.args.components.now.items c.loop-rest.components.items c.loop-rest.rest.now c.loop-rest.invariant l e.1,
    )
