use Rattle.std.proofs.Common.{◌+◌, ◌≤◌, length}
use Rattle.asn1check.specs.Messages.{EncodesSome}
use Rattle.asn1check.proofs.Checking.{Continues, Spoils}
use Rattle.asn1check.proofs.reading.all_checked.Given as goal

-- the pieces that were checked, before what is left
abbrev pub invariant-loop-left : goal.invariant-loop-left
invariant-loop-left g l =
    Continues (EncodesSome g.T.BERDecodable.encodes l.mode) l.bytes l.count l.left
    × Spoils (EncodesSome g.T.BERDecodable.encodes l.mode) l.bytes l.left
    × (1 ≤ l.count)
    × (1 ≤ length l.left → l.count + length l.left ≤ length l.bytes)

abbrev pub decreases-loop-left : goal.decreases-loop-left
decreases-loop-left g l = length l.left
