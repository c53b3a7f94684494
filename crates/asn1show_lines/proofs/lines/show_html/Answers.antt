use Rattle.std.proofs.lemmas.Result.{IfOk-weaker}
use Rattle.asn1show_lines.proofs.Conforming.{conforming}
use Rattle.asn1show_lines.proofs.lines.show_html.Goals as goal

pub returns-in-Ok-clause-conformance : goal.returns-in-Ok-clause-conformance
returns-in-Ok-clause-conformance g c = λ plain.
    IfOk-weaker c.finish.result _ _
    (λ conformance is. conforming c.args.mode c.args.bytes.now _ _ conformance (c.in-Ok.ensures {u = tt}).lines (c.begin-page.ensures plain) is)
    c.finish.ensures.conformance
