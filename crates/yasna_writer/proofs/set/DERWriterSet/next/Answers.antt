use Rattle.std.proofs.Common.{rules}
use Rattle.yasna_writer.proofs.set.DERWriterSet.next.Goals as goal

pub returns : goal.returns
returns c = search rules
