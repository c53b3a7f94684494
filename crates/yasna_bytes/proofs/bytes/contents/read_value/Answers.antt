use Rattle.std.proofs.Common.{refl}
use Rattle.yasna_bytes.proofs.Contents.{not_taken, rejects_value}
use Rattle.yasna_bytes.proofs.bytes.contents.read_value.Goals as goal

pub returns-in-Err-of_contents : goal.returns-in-Err-of_contents
returns-in-Err-of_contents g c =
    let p = c.args.cursor in
    rw c.reject.ensures (not_taken (g.T.Contents.means p.mode) g.T.Contents.may_allocate p.mode p.levels c.args.tag p.left.now c.in-Ok.contents.now c.in-Ok.rest.now
    _ (c.in-Ok.ensures {u = tt}) (c.in-Err-of_contents.ensures {u = tt}) refl)

pub returns-in-Err : goal.returns-in-Err
returns-in-Err g c =
    let p = c.args.cursor in
    rejects_value (g.T.Contents.means p.mode) (g.T.Contents.may_allocate p.levels c.args.tag p.left.now) p.mode p.levels c.args.tag p.left.now c.in-Err.rejection
    (c.in-Err.ensures {u = tt})
