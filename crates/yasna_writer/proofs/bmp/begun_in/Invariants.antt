use Rattle.std.proofs.Common.{◌≡◌, ◌≤◌, ◌+◌, ◌*◌, drop}
use Rattle.std.specs.List.{sum_by}
use Rattle.yasna_writer.specs.Bmp.{octets_begun}
use Rattle.yasna_writer.proofs.bmp.begun_in.Given as goal

-- what is counted, and what is left, are all
abbrev pub invariant-loop-byte : goal.invariant-loop-byte
invariant-loop-byte l = (l.sum + sum_by octets_begun (drop l.byte-index l.block) ≡ sum_by octets_begun l.block) × (l.sum ≤ 4 * l.byte-index)
