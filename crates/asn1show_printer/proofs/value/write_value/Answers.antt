use Rattle.std.proofs.Common.{sym, subst}
use Rattle.asn1show_printer.specs.Contents.{DiagnosesOf}
use Rattle.asn1show_printer.proofs.Contents.{whole_diagnosed}
use Rattle.asn1show_printer.proofs.value.write_value.Goals as goal

pub returns-in-Whole : goal.returns-in-Whole
returns-in-Whole c = λ _.
    subst (λ kind. DiagnosesOf kind c.args.contents.now c.write_text-in-Whole.result) (sym c.in-Whole.is)
    (whole_diagnosed c.in-Whole.characters c.args.contents.now c.write_text-in-Whole.result c.write_text-in-Whole.ensures)
