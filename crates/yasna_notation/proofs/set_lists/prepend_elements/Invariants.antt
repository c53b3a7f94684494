use Rattle.std.proofs.Common.{◌≡◌, ◌++◌, None, length}
use Rattle.std.specs.List.{AllByRecursion}
use Rattle.yasna_base.specs.SequenceOf.{elements_encoding}
use Rattle.yasna_writer.specs.Prepend.{with_prefix}
use Rattle.yasna_writer.specs.PartOrder.{part_lens}
use Rattle.yasna_notation.proofs.set_lists.prepend_elements.Given as goal

-- what was prepended, and the rest, are all, and so are their lengths
abbrev pub invariant-loop-last : goal.invariant-loop-last
invariant-loop-last g l = record {
  can : AllByRecursion g.N.Notation.means.can l.rest;
  all : with_prefix (elements_encoding (g.N.Notation.means.encoding_under None) l.out.mode l.rest) l.out
      ≡ with_prefix (elements_encoding (g.N.Notation.means.encoding_under None) l.fn.out.mode l.items) l.fn.out;
  noted : l.lens.items ++ part_lens (g.N.Notation.means.encoding_under None) l.out.mode l.rest
      ≡ part_lens (g.N.Notation.means.encoding_under None) l.fn.out.mode l.items;
}

abbrev pub decreases-loop-last : goal.decreases-loop-last
decreases-loop-last g l = length l.rest
