use Rattle.std.proofs.Common.{◌-◌, take, sym, ◌∙◌, ap, arith}
use Rattle.asn1_syntax.specs.Printing.{prepended}
use Rattle.asn1_syntax.specs.Tree.{assignments_then}
use Rattle.asn1_syntax.proofs.Texts.{last_read_of_first, one_more_assignment}
use Rattle.asn1_syntax.proofs.printed_module.assignments.Goals as goal

pub loop-left-preserved : goal.loop-left-preserved
loop-left-preserved c =
    let all = c.args.assignments.now in
    let left = c.loop-left.left in
    let one = c.index-assignments-left.result in
    let before = prepended c.loop-left.out in
    let shorter = last_read_of_first all left one (omega (arith, c.loop-left-test.true)) c.loop-left.invariant.fits c.index-assignments-left.is in
    record {
      value = c.loop-left.invariant.value
          ∙ ap (λ first. assignments_then first before) shorter
          ∙ one_more_assignment (take (left - 1) all) one before
          ∙ ap (assignments_then (take (left - 1) all)) (sym (c.in_ok-assignment.ensures {u = tt}));
      fits = omega (arith, c.loop-left.invariant.fits);
    }
