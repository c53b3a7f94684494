use Rattle.std.proofs.Common.{◌≡◌, ◌+◌, length}
use Rattle.std.specs.List.{sum_by}
use Rattle.std.specs.Str.{chars}
use Rattle.yasna_base.specs.Text.{bmp_octets}
use Rattle.yasna_writer.specs.Bmp.{octets_begun}
use Rattle.yasna_writer.proofs.bmp.bmp_length.Given as goal

-- what is counted, and what is left, are all
abbrev pub invariant-loop-rest : goal.invariant-loop-rest
invariant-loop-rest l = l.length + sum_by octets_begun l.rest ≡ length (bmp_octets (chars l.string))

abbrev pub decreases-loop-rest : goal.decreases-loop-rest
decreases-loop-rest l = length l.rest
