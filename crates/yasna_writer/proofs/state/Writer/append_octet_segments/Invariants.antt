use Rattle.std.proofs.Common.{◌≡◌, ◌++◌, length}
use Rattle.yasna_writer.specs.Segments.{in_octet_segments}
use Rattle.yasna_writer.proofs.state.Writer.append_octet_segments.Given as goal

-- what is appended, and what is left, are all
abbrev pub invariant-loop-rest : goal.invariant-loop-rest
invariant-loop-rest l =
    record l.self { bytes = l.self.bytes ++ in_octet_segments l.rest }
    ≡ record l.fn.self { bytes = l.fn.self.bytes ++ in_octet_segments l.octets }

abbrev pub decreases-loop-rest : goal.decreases-loop-rest
decreases-loop-rest l = length l.rest
