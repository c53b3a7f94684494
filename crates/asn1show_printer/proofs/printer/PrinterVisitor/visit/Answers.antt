use Rattle.std.proofs.Common.{refl}
use Rattle.asn1show_printer.proofs.Reports.{on_ok, knows_more}
use Rattle.asn1show_printer.proofs.printer.PrinterVisitor.visit.Goals as goal

pub returns-then-count-clause-reported : goal.returns-then-count-clause-reported
returns-then-count-clause-reported g c =
    on_ok c.write.result _
    (λ before knows. knows_more _ _ _ _ _ _ _ c.args.item.now c.label-label.result before c.label-label.ensures refl (c.in-Ok.ensures {u = tt}).described
    c.print_diagnostics.ensures c.count.ensures.met c.count.ensures.same refl knows)

pub returns-else-count-clause-reported : goal.returns-else-count-clause-reported
returns-else-count-clause-reported g c =
    on_ok c.discard.result _
    (λ before knows. knows_more _ _ _ _ _ _ _ c.args.item.now c.label-label.result before c.label-label.ensures refl (c.in-Ok.ensures {u = tt}).described
    c.print_diagnostics.ensures c.count.ensures.met c.count.ensures.same c.discard.ensures.same knows)
