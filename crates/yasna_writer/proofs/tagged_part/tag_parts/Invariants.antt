use Rattle.std.proofs.Common.{◌≡◌, ◌++◌}
use Rattle.std.specs.Vec.Iter.{into_iter_items}
use Rattle.yasna_writer.specs.Parts.{bytes_each, parts_of}
use Rattle.yasna_writer.specs.Set.{AreTagged}
use Rattle.yasna_writer.proofs.tagged_part.tag_parts.Given as goal

abbrev pub invariant-loop-bytes : goal.invariant-loop-bytes
invariant-loop-bytes l =
    AreTagged (bytes_each l.yielded) (parts_of l.tagged.items) × (l.fn.parts.items ≡ l.yielded ++ into_iter_items l.bytes-iterator)
