use Rattle.std.proofs.Common.{◌-◌, take, sym, ◌∙◌, ap, arith}
use Rattle.asn1_syntax.specs.Printing.{prepended}
use Rattle.asn1_syntax.specs.Tree.{constraints_then, parenthesized_then}
use Rattle.asn1_syntax.proofs.Texts.{last_read_of_first, one_more_constraint}
use Rattle.asn1_syntax.proofs.printed_notation.constraints.Goals as goal

pub loop-left-preserved : goal.loop-left-preserved
loop-left-preserved c =
    let all = c.args.constraints.now in
    let left = c.loop-left.left in
    let one = c.index-constraints-left.result in
    let before = prepended c.loop-left.out in
    let shorter = last_read_of_first all left one (omega (arith, c.loop-left-test.true)) c.loop-left.invariant.fits c.index-constraints-left.is in
    record {
      value = c.loop-left.invariant.value
          ∙ ap (λ first. constraints_then first before) shorter
          ∙ one_more_constraint (take (left - 1) all) one before
          ∙ ap (constraints_then (take (left - 1) all))
          (ap (λ ts. parenthesized_then ts before) (sym c.as_slice.ensures.value) ∙ sym (c.in_ok-parenthesized.ensures {u = tt}));
      fits = omega (arith, c.loop-left.invariant.fits);
    }
