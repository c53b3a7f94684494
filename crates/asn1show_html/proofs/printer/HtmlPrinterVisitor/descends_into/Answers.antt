use Rattle.asn1show_walk.proofs.OneElement.{one_joining}
use Rattle.asn1show_html.proofs.printer.HtmlPrinterVisitor.descends_into.Goals as goal

pub returns-then-not-is_segment : goal.returns-then-not-is_segment
returns-then-not-is_segment g c = λ e. one_joining c.args.context.levels c.args.context.mode c.args.string.left.now (c.is_one_element.ensures.0 e)
