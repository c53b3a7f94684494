use Rattle.std.proofs.Common.{refl, sym, subst}
use Rattle.asn1show_walk.specs.Reading.{line_of}
use Rattle.asn1show_printer.specs.Modes.{Pins}
use Rattle.asn1show_printer.specs.Segments.{HasWantedTag, MayBeNext}
use Rattle.asn1show_printer.specs.declared.diagnostic.Diagnostic.TheVariants.{Segment, AfterUnusedBits}
use Rattle.asn1show_printer.proofs.Modes.{pins_flag, element_keeps_by}
use Rattle.asn1show_printer.proofs.defects.defects_of.Goals as goal

pub returns : goal.returns
returns c = λ is body order before place.
    let l = line_of c.args.item.now in
    element_keeps_by l before c.args.kind is _ _ _ _ _ _ _ body c.bit_diagnostic.ensures order c.length_diagnostic.ensures
    (subst (Pins (λ m. HasWantedTag before l)) (sym c.unless.ensures) (pins_flag _ _ Segment place.expected (λ m. refl)))
    (subst (Pins (λ m. MayBeNext before l)) (sym c.unless-2.ensures) (pins_flag _ _ AfterUnusedBits place.follows (λ m. refl)))
    c.cut_diagnostic.ensures
