use Rattle.std.proofs.Common.{◌≡◌, None, take, length}
use Rattle.yasna_base.specs.SequenceOf.{elements_encoding}
use Rattle.yasna_notation.proofs.lists.items_len.Given as goal

abbrev pub invariant-loop-item : goal.invariant-loop-item
invariant-loop-item g l = l.total ≡ length (elements_encoding (g.N.Notation.means.encoding_under None) l.mode (take l.item-index l.items))
