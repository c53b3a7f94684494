use Rattle.std.proofs.Common.{rules}
use Rattle.yasna_reader.proofs.SetChoosing.{chose}
use Rattle.yasna_reader.proofs.set.VecDequeSetElementChooseReaderState.choose.Goals as goal

pub returns-in-Some-first_among : goal.returns-in-Some-first_among
returns-in-Some-first_among c = search (rules, chose)
