use Rattle.std.proofs.Common.{◌-◌, take, sym, ◌∙◌, ap, arith}
use Rattle.asn1_syntax.specs.Printing.{prepended}
use Rattle.asn1_syntax.specs.Tree.{names_then}
use Rattle.asn1_syntax.proofs.Texts.{last_of_first, one_more_name}
use Rattle.asn1_syntax.proofs.printed_module.names.Goals as goal

pub loop-left-preserved : goal.loop-left-preserved
loop-left-preserved c =
    let all = c.args.names.now in
    let left = c.loop-left.left in
    let before = prepended c.loop-left.out in
    let shorter = last_of_first all left _ (omega (arith, c.loop-left-test.true)) c.loop-left.invariant.fits in
    record {
      value = c.loop-left.invariant.value
          ∙ ap (λ first. names_then first before) shorter
          ∙ one_more_name (take (left - 1) all) _ before
          ∙ ap (names_then (take (left - 1) all)) (sym (c.in_ok-name.ensures {u = tt}));
      fits = omega (arith, c.loop-left.invariant.fits);
    }
