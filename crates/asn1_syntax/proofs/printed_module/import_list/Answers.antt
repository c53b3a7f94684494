use Rattle.std.proofs.Common.{◌-◌, take, sym, ◌∙◌, ap, arith}
use Rattle.asn1_syntax.specs.Printing.{prepended}
use Rattle.asn1_syntax.specs.Tree.{import_list_then}
use Rattle.asn1_syntax.proofs.Texts.{last_read_of_first, one_more_import}
use Rattle.asn1_syntax.proofs.printed_module.import_list.Goals as goal

pub loop-left-preserved : goal.loop-left-preserved
loop-left-preserved c =
    let all = c.args.imports.now in
    let left = c.loop-left.left in
    let one = c.index-imports-left.result in
    let before = prepended c.loop-left.out in
    let shorter = last_read_of_first all left one (omega (arith, c.loop-left-test.true)) c.loop-left.invariant.fits c.index-imports-left.is in
    record {
      value = c.loop-left.invariant.value
          ∙ ap (λ first. import_list_then first before) shorter
          ∙ one_more_import (take (left - 1) all) one before
          ∙ ap (import_list_then (take (left - 1) all)) (sym (c.in_ok-import.ensures {u = tt}));
      fits = omega (arith, c.loop-left.invariant.fits);
    }
