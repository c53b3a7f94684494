use Rattle.std.proofs.Common.{◌≡◌, ◌++◌, take}
use Rattle.std.specs.List.{flat_map}
use Rattle.yasna_writer.proofs.state.Writer.append_parts.Given as goal

abbrev pub invariant-loop-part : goal.invariant-loop-part
invariant-loop-part g l = l.self ≡ record l.fn.self { bytes = l.fn.self.bytes ++ flat_map g.P.AsSlice.items (take l.part-index l.parts) }
