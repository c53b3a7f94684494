use Rattle.std.proofs.Common.{subst, sym}
use Rattle.yasna_times.specs.Models.{utc_of}
use Rattle.asn1show_printer.specs.Contents.{DiagnosesOf}
use Rattle.asn1show_printer.specs.declared.asn_type.AsnType.TheVariants.{UtcTime as OfUtcTime}
use Rattle.asn1show_printer.proofs.Contents.{utc_diagnosed, no_utc_diagnosed}
use Rattle.asn1show_printer.proofs.value.time.write_utc_time.Goals as goal

pub returns-in_default : goal.returns-in_default
returns-in_default c =
    subst (DiagnosesOf OfUtcTime c.args.octets.now) (sym c.write_no_time.ensures) (no_utc_diagnosed c.args.octets.now (λ t. c.in_default.ensures (utc_of t)))

pub returns : goal.returns
returns c =
    subst (DiagnosesOf OfUtcTime c.args.octets.now) (sym c.end_in_utc.ensures)
    (utc_diagnosed c.args.octets.now c.in-Some.time c.in-Some.ensures c.is_canonical.result (c.is_canonical.ensures.canonical c.in-Some.ensures))
