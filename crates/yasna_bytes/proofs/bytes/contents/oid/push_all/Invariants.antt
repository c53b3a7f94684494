use Rattle.std.proofs.Common.{length}
use Rattle.yasna_bytes.proofs.Oid.{AreReadSo}
use Rattle.yasna_bytes.proofs.bytes.contents.oid.push_all.Given as goal

abbrev pub invariant-loop-rest : goal.invariant-loop-rest
invariant-loop-rest l = AreReadSo l.contents l.initial.components.items l.components.items l.rest

abbrev pub decreases-loop-rest : goal.decreases-loop-rest
decreases-loop-rest l = length l.rest
