use Rattle.std.proofs.Common.{subst, sym}
use Rattle.yasna_times.specs.Models.{moment_of}
use Rattle.asn1show_printer.specs.Contents.{DiagnosesOf}
use Rattle.asn1show_printer.specs.declared.asn_type.AsnType.TheVariants.{GeneralizedTime as OfGeneralizedTime}
use Rattle.asn1show_printer.proofs.Contents.{general_diagnosed, other_diagnosed}
use Rattle.asn1show_printer.proofs.value.time.write_generalized_time.Goals as goal

pub returns-in_default : goal.returns-in_default
returns-in_default c =
    let none = rw c.in_default.is at (c.in_ok-time.ensures {u = tt}).exact in
    subst (DiagnosesOf OfGeneralizedTime c.args.octets.now) (sym c.write_local_time.ensures)
    (other_diagnosed c.args.octets.now none c.in_ok-parsed.parsed (c.in_ok-parsed.ensures {u = tt}).exact)

pub returns : goal.returns
returns c =
    let text = rw c.in-Some.is at (c.in_ok-time.ensures {u = tt}).exact in
    subst (DiagnosesOf OfGeneralizedTime c.args.octets.now) (sym c.end_in_utc.ensures)
    (general_diagnosed c.args.octets.now (moment_of c.in-Some.time) text c.is_canonical.result c.is_canonical.ensures)
