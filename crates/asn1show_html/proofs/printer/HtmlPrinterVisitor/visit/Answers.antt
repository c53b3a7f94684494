use Rattle.std.proofs.Common.{◌≡◌, ◌∙◌, refl, ap}
use Rattle.asn1show_printer.specs.declared.report.Report.{Report}
use Rattle.asn1show_printer.proofs.Reports.{on_ok, knows_more}
use Rattle.asn1show_html.proofs.printer.HtmlPrinterVisitor.visit.Goals as goal

pub returns-then-not-count-clause-reported : goal.returns-then-not-count-clause-reported
returns-then-not-count-clause-reported g c =
    on_ok c.discard.result _
    (λ before knows. knows_more _ _ _ _ _ _ _ c.args.item.now c.label-label.result before c.label-label.ensures refl (c.in-Ok.ensures {u = tt}).described refl
    c.count.ensures.met c.count.ensures.same c.discard.ensures.same knows)

pub returns-in-Ok-write_element-clause-reported : goal.returns-in-Ok-write_element-clause-reported
returns-in-Ok-write_element-clause-reported g c =
    let discarded = c.discard-in-Ok-write_element.new.self in
    let same : discarded ≡ record c.count.new.self { line = discarded.line } =
    c.discard-in-Ok-write_element.ensures.same ∙ ap (λ (r : Report). record r { line = discarded.line }) c.write_element.ensures.report in
    on_ok c.discard-in-Ok-write_element.result _
    (λ before knows. knows_more _ _ _ _ _ _ _ c.args.item.now c.label-label.result before c.label-label.ensures refl (c.in-Ok.ensures {u = tt}).described refl
    c.count.ensures.met c.count.ensures.same same knows)
