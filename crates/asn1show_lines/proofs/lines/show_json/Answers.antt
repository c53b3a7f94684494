use Rattle.asn1show_lines.proofs.Conforming.{conforming}
use Rattle.asn1show_lines.proofs.lines.show_json.Goals as goal

pub returns-in-Ok-clause-conformance : goal.returns-in-Ok-clause-conformance
returns-in-Ok-clause-conformance g c = λ plain.
    conforming c.args.mode c.args.bytes.now _ _ _ (c.in-Ok.ensures {u = tt}).lines ((c.in_ok-printer.ensures {u = tt}).report plain)
    (c.in_ok-conformance.ensures {u = tt}).conformance
