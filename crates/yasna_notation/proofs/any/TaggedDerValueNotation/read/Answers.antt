use Rattle.yasna_notation.proofs.OneTag.{any_read}
use Rattle.yasna_notation.proofs.any.TaggedDerValueNotation.read.Goals as goal

pub returns : goal.returns
returns c = any_read c.args.reader.now c.read_tagged_der.result c.read_tagged_der.new.self c.read_tagged_der.ensures
