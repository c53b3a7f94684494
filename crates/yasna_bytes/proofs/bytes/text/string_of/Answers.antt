use Rattle.std.proofs.Common.{refl}
use Rattle.yasna_base.specs.Octets.{IsDeepOctets}
use Rattle.yasna_bytes.specs.Contents.{MayAllocate}
use Rattle.yasna_bytes.proofs.Text.{judged_rejected, octets_rejected}
use Rattle.yasna_bytes.proofs.bytes.text.string_of.Goals as goal

pub returns-in-Err-judge : goal.returns-in-Err-judge
returns-in-Err-judge g c =
    let p = c.args.cursor in
    rw c.reject.ensures (judged_rejected (g.J.Judge.encodes c.args.judge) p.levels p.mode c.args.tag p.left.now c.in-Ok-Some.octets.now c.in-Ok-Some.rest.now _
    (rw c.in-Ok-Some.field-0-is at (c.in-Ok-Some.ensures {u = tt})) (c.in-Err-judge.ensures {u = tt}) refl)

pub returns-in-Err : goal.returns-in-Err
returns-in-Err g c =
    let p = c.args.cursor in
    octets_rejected (g.J.Judge.encodes c.args.judge) p.levels p.mode c.args.tag p.left.now (IsDeepOctets c.args.tag p.mode p.levels p.left.now)
    (MayAllocate p.levels c.args.tag p.left.now) c.in-Err.rejection (c.in-Err.ensures {u = tt})
