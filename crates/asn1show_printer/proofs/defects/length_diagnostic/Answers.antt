use Rattle.std.proofs.Common.{sym, subst}
use Rattle.asn1show_printer.specs.Modes.{HasShortLength, Pins}
use Rattle.asn1show_printer.proofs.Modes.{short_pins}
use Rattle.asn1show_printer.proofs.defects.length_diagnostic.Goals as goal

pub returns : goal.returns
returns c =
    let i = c.args.item.now in
    subst (Pins (HasShortLength i.tag i.bit i.header i.size)) (sym c.unless.ensures) (short_pins _ _ c.is_long.ensures.short)
