use Rattle.std.proofs.Common.{subst}
use Rattle.asn1show_printer.specs.Pieces.{SaysOfCer}
use Rattle.asn1show_printer.proofs.Modes.{cut_pins}
use Rattle.asn1show_printer.proofs.defects.cut_diagnostic.Goals as goal

pub returns : goal.returns
returns c =
    let i = c.args.item.now in
    cut_pins i.bit i.size _ i.contents.now _ (subst (λ s. SaysOfCer i.bit i.size i.contents.now s c.cer_diagnostic.result) c.is_string.ensures c.cer_diagnostic.ensures)
