use Rattle.std.proofs.Common.{refl}
use Rattle.yasna_bytes.specs.Header.{OnlyConstructed}
use Rattle.yasna_bytes.proofs.Header.{seen_bit, other_bit, any_rejects}
use Rattle.yasna_bytes.proofs.bytes.header.open_constructed.Goals as goal

pub returns-in-Primitive : goal.returns-in-Primitive
returns-in-Primitive c =
    let w = c.in-Ok.ensures {u = tt} in
    let p = c.args.cursor in
    rw c.reject.ensures (other_bit p.mode p.levels c.args.tag c.in-Ok.opened.bit p.left.now c.in-Ok.opened.contents c.in-Ok.opened.end _ w.1
    (seen_bit c.opened.view_is c.in-Primitive.is) w.0 tt refl)

pub returns-in-Err : goal.returns-in-Err
returns-in-Err c = let p = c.args.cursor in any_rejects OnlyConstructed p.mode p.levels c.args.tag p.left.now c.in-Err.rejection (c.in-Err.ensures {u = tt})
