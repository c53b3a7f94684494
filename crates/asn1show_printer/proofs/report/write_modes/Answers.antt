use Rattle.std.proofs.Common.{subst}
use Rattle.asn1show_printer.specs.Lines.{Appends}
use Rattle.asn1show_printer.proofs.LineSteps.{appends_more}
use Rattle.asn1show_printer.proofs.report.write_modes.Goals as goal

pub returns : goal.returns
returns c = appends_more _ _ _ _ _ c.write_str.ensures (subst (λ t. Appends c.write_str.new.self t c.write_str-2.new.self) c.modes.ensures c.write_str-2.ensures)
