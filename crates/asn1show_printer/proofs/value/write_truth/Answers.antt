use Rattle.std.proofs.Common.{rules, ◌∷◌, [], subst, sym}
use Rattle.asn1show_printer.specs.Contents.{DiagnosesOf}
use Rattle.asn1show_printer.specs.declared.asn_type.AsnType.TheVariants.{Boolean}
use Rattle.asn1show_printer.proofs.Contents.{truth_diagnosed}
use Rattle.asn1show_printer.proofs.value.write_truth.Goals as goal

pub returns : goal.returns
returns c =
    subst (DiagnosesOf Boolean (c.args.octet ∷ [])) (sym c.unless.ensures)
    (truth_diagnosed c.args.octet (search rules) (search rules) _ (search rules) (search rules))
