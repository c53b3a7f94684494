use Rattle.std.proofs.Common.{refl}
use Rattle.yasna_base.specs.Octets.{IsDeepOctets}
use Rattle.yasna_bytes.specs.Contents.{MayAllocate}
use Rattle.yasna_bytes.proofs.Text.{judged_rejected, octets_rejected}
use Rattle.yasna_bytes.proofs.bytes.text.joined_of.Goals as goal

pub returns-in-Err-judge_joined : goal.returns-in-Err-judge_joined
returns-in-Err-judge_joined g c =
    let p = c.args.cursor in
    rw c.reject.ensures (judged_rejected (g.J.Judge.encodes c.args.judge) p.levels p.mode c.args.tag p.left.now c.in-Ok.string.0.items c.in-Ok.string.1.now _
    (c.in-Ok.ensures {u = tt}) (c.in-Err-judge_joined.ensures {u = tt}) refl)

pub returns-in-Err : goal.returns-in-Err
returns-in-Err g c =
    let p = c.args.cursor in
    octets_rejected (g.J.Judge.encodes c.args.judge) p.levels p.mode c.args.tag p.left.now (IsDeepOctets c.args.tag p.mode p.levels p.left.now)
    (MayAllocate p.levels c.args.tag p.left.now) c.in-Err.rejection (c.in-Err.ensures {u = tt})
