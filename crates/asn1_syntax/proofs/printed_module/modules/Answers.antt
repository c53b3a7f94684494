use Rattle.std.proofs.Common.{◌-◌, take, sym, ◌∙◌, ap, arith}
use Rattle.asn1_syntax.specs.Printing.{prepended}
use Rattle.asn1_syntax.specs.Tree.{modules_then}
use Rattle.asn1_syntax.proofs.Texts.{last_read_of_first, one_more_module}
use Rattle.asn1_syntax.proofs.printed_module.modules.Goals as goal

pub loop-left-preserved : goal.loop-left-preserved
loop-left-preserved c =
    let all = c.args.modules.now in
    let left = c.loop-left.left in
    let one = c.index-modules-left.result in
    let before = prepended c.loop-left.out in
    let shorter = last_read_of_first all left one (omega (arith, c.loop-left-test.true)) c.loop-left.invariant.fits c.index-modules-left.is in
    record {
      value = c.loop-left.invariant.value
          ∙ ap (λ first. modules_then first before) shorter
          ∙ one_more_module (take (left - 1) all) one before
          ∙ ap (modules_then (take (left - 1) all)) (sym (c.in_ok-module.ensures {u = tt}));
      fits = omega (arith, c.loop-left.invariant.fits);
    }
