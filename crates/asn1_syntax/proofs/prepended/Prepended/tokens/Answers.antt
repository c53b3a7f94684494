use Rattle.std.proofs.Common.{◌-◌, take, sym, ◌∙◌, ap, arith}
use Rattle.asn1_syntax.specs.Printing.{prepended}
use Rattle.asn1_syntax.specs.Tree.{texts_then}
use Rattle.asn1_syntax.proofs.Texts.{last_of_first, one_more_text}
use Rattle.asn1_syntax.proofs.prepended.Prepended.tokens.Goals as goal

pub loop-left-preserved : goal.loop-left-preserved
loop-left-preserved c =
    let all = c.args.tokens.now in
    let left = c.loop-left.left in
    let before = prepended c.loop-left.self in
    let shorter = last_of_first all left _ (omega (arith, c.loop-left-test.true)) c.loop-left.invariant.fits in
    record {
      value = c.loop-left.invariant.value
          ∙ ap (λ first. texts_then first before) shorter
          ∙ one_more_text (take (left - 1) all) _ before
          ∙ ap (texts_then (take (left - 1) all)) (sym (c.in_ok-text.ensures {u = tt}));
      fits = omega (arith, c.loop-left.invariant.fits);
    }
