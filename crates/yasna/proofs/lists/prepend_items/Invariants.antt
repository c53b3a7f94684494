use Rattle.std.proofs.Common.{◌≡◌, length}
use Rattle.std.specs.List.{AllByRecursion}
use Rattle.yasna_base.specs.SequenceOf.{elements_encoding}
use Rattle.yasna_writer.specs.Prepend.{with_prefix}
use Rattle.yasna.proofs.lists.prepend_items.Given as goal

-- what was prepended, and the rest, are all
abbrev pub invariant-loop-last : goal.invariant-loop-last
invariant-loop-last g l = record {
  can : AllByRecursion g.T.DEREncodable.encodable l.rest;
  all : with_prefix (elements_encoding g.T.DEREncodable.encoding l.out.mode l.rest) l.out
      ≡ with_prefix (elements_encoding g.T.DEREncodable.encoding l.fn.out.mode l.items) l.fn.out;
}

abbrev pub decreases-loop-last : goal.decreases-loop-last
decreases-loop-last g l = length l.rest
