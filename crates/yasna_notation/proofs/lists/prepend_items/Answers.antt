use Rattle.std.proofs.Common.{None}
use Rattle.yasna_writer.proofs.Prepends.{item_prepended, all_before_last}
use Rattle.yasna_notation.proofs.lists.prepend_items.Goals as goal

pub loop-last-preserved : goal.loop-last-preserved
loop-last-preserved g c =
    let rest = c.loop-last.rest.now in
    let others = c.in-Some.others.now in
    let split = c.in-Some.ensures.cases.0 in
    record {
      can = (all_before_last g.N.Notation.means.can rest others c.in-Some.last.now split c.loop-last.invariant.can).0;
      all = item_prepended (g.N.Notation.means.encoding_under None) rest others c.in-Some.last.now c.loop-last.out c.prepend.new.out _ split
          (c.in_ok-prepend.ensures {u = tt}) c.loop-last.invariant.all;
    }
