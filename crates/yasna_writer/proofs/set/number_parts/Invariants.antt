use Rattle.std.proofs.Common.{◌≡◌, take}
use Rattle.yasna_writer.specs.Parts.{bytes_each, ordered_bytes}
use Rattle.yasna_writer.proofs.set.number_parts.Given as goal

abbrev pub invariant-loop-bytes : goal.invariant-loop-bytes
invariant-loop-bytes l = ordered_bytes l.numbered.items ≡ bytes_each (take l.bytes-index l.parts)
