use Rattle.yasna_base.proofs.BitSegments.{joined_more, too_many_joined, too_many_follow}
use Rattle.yasna_bytes.proofs.bytes.segments.bits.BitsTally.with.Goals as goal

pub returns-in-Some : goal.returns-in-Some
returns-in-Some c =
    let s = c.in-Some.ensures {u = tt} in
    λ m vs b d j h. joined_more m vs (record { bytes = b; count = c.args.self.count }) (record { bytes = d; count = c.args.segment.count }) c.in-Some.count j h
    s.0 s.1

pub returns-in-None : goal.returns-in-None
returns-in-None c = (
  tt,
  λ m vs ws b d j. (
    λ v. too_many_joined m vs ws (record { bytes = b; count = c.args.self.count }) (record { bytes = d; count = c.args.segment.count }) v
        (c.in-None.ensures {u = tt}) j,
    too_many_follow m vs ws (record { bytes = b; count = c.args.self.count }) (record { bytes = d; count = c.args.segment.count })
        (c.in-None.ensures {u = tt}) j,
  ),
)
