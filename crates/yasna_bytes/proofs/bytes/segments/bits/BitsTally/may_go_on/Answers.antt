use Rattle.std.proofs.Common.{rules, ◌≡◌, ◌%◌, nat_eq, IsTrue}
use Rattle.yasna_base.proofs.BitSegments.{eight_may_follow, may_follow_eight}
use Rattle.yasna_bytes.proofs.bytes.segments.bits.BitsTally.may_go_on.Goals as goal

pub returns : goal.returns
returns c = λ n m vs b d p j. (
  λ f. eight_may_follow n m vs (record { bytes = b; count = c.args.self.count }) p.pieces p.each j (let e : c.args.self.count % 8 ≡ 0 = search rules in e),
  λ h. let e = may_follow_eight m vs (record { bytes = b; count = c.args.self.count }) j h in
      let f : IsTrue (nat_eq (c.args.self.count % 8) 0) = search rules in
      f,
)
