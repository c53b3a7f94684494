use Rattle.std.proofs.Common.{sym, subst}
use Rattle.asn1show_printer.specs.Contents.{AreSubidentifiers, DiagnosesOf}
use Rattle.asn1show_printer.specs.declared.asn_type.AsnType.TheVariants.{Relative}
use Rattle.asn1show_printer.proofs.Contents.{none_or_all}
use Rattle.asn1show_printer.proofs.value.relative_diagnostic.Goals as goal

pub returns : goal.returns
returns c =
    subst (DiagnosesOf Relative c.args.contents.now) (sym c.unless.ensures)
    (none_or_all Relative (AreSubidentifiers c.args.contents.now) c.args.contents.now (λ m w. w) (λ m w. w)
    _ c.are_components.ensures _ c.components_diagnostic.ensures)
