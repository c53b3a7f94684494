use Rattle.std.proofs.Common.{◌≡◌, ◌≤◌, ◌++◌, length}
use Rattle.yasna_writer.specs.Segments.{in_bit_segments, bits_with}
use Rattle.yasna_writer.proofs.state.Writer.append_bit_segments.Given as goal

-- some bytes are left; what is appended, and what is left, are all
abbrev pub invariant-loop-rest : goal.invariant-loop-rest
invariant-loop-rest l = record {
  some : 1 ≤ length l.rest;
  done : record l.self { bytes = l.self.bytes ++ in_bit_segments (bits_with l.unused l.rest) }
      ≡ record l.fn.self { bytes = l.fn.self.bytes ++ in_bit_segments (bits_with l.unused l.bytes) };
}

abbrev pub decreases-loop-rest : goal.decreases-loop-rest
decreases-loop-rest l = length l.rest
