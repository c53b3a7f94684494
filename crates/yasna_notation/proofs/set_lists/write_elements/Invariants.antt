use Rattle.std.proofs.Common.{◌≡◌, take}
use Rattle.std.specs.Prelude.{Ok, None}
use Rattle.yasna_base.specs.SetWriting.{encodings}
use Rattle.yasna_notation.specs.Sets.{WroteElements}
use Rattle.yasna_notation.proofs.set_lists.write_elements.Given as goal

abbrev pub invariant-loop-item : goal.invariant-loop-item
invariant-loop-item g l =
    (l.set.mode ≡ l.initial.set.mode)
    × WroteElements (encodings (g.N.Notation.means.encoding_under None) l.initial.set.mode (take l.item-index l.items)) l.set (Ok tt)
