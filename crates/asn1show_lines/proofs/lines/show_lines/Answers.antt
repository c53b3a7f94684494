use Rattle.std.proofs.lemmas.Result.{IfOk-weaker}
use Rattle.asn1show_lines.proofs.Conforming.{conforming}
use Rattle.asn1show_lines.proofs.lines.show_lines.Goals as goal

pub returns-in-Ok-clause-conformance : goal.returns-in-Ok-clause-conformance
returns-in-Ok-clause-conformance g c = λ plain.
    IfOk-weaker c.finish.result _ _
    (λ conformance is. conforming c.args.mode c.args.bytes.now _ _ conformance (c.in-Ok.ensures {u = tt}).lines ((c.in_ok-printer.ensures {u = tt}).report plain) is)
    c.finish.ensures.conformance
