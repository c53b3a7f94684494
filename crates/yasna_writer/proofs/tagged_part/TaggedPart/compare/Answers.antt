use Rattle.std.proofs.Common.{rules}
use Rattle.yasna_writer.proofs.tagged_part.TaggedPart.compare.Goals as goal

pub returns : goal.returns
returns c = search rules
