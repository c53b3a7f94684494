use Rattle.yasna_reader.specs.State.{part_of}
use Rattle.yasna_notation.proofs.Contents.{nothing_read}
use Rattle.yasna_notation.proofs.parts.UnitParts.read_parts.Goals as goal

pub returns : goal.returns
returns c = nothing_read (part_of c.args._seq.now) c.requires.fresh
