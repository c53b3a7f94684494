use Rattle.std.proofs.Common.{rules}
use Rattle.yasna_writer.proofs.Padding.{padded_contents}
use Rattle.yasna_writer.proofs.state.Writer.write_whole_bits.Goals as goal

pub returns : goal.returns
returns c = search (rules, padded_contents)
