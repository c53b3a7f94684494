use Rattle.std.proofs.Common.{take}
use Rattle.std.specs.Prelude.{Ok}
use Rattle.yasna_base.specs.SequenceOf.{elements_encoding}
use Rattle.yasna_writer.specs.View.{WroteParts}
use Rattle.yasna.proofs.lists.write_items.Given as goal

abbrev pub invariant-loop-item : goal.invariant-loop-item
invariant-loop-item g l = WroteParts (elements_encoding g.T.DEREncodable.encoding l.initial.seq.mode (take l.item-index l.items)) l.initial.seq l.seq (Ok tt)
