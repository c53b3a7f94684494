use Rattle.std.proofs.Common.{◌≡◌, None, Some, subst}
use Rattle.std.specs.Prelude.{if◌then◌else◌}
use Rattle.asn1show_printer.specs.declared.diagnostic.Diagnostic.TheVariants.{Indefinite}
use Rattle.std.proofs.lemmas.Result.{IfOk-weaker}
use Rattle.asn1show_printer.proofs.Modes.{body_primitive, body_constructed}
use Rattle.asn1show_printer.proofs.defects.write_body.Goals as goal

pub returns-in-Primitive-clause-pinned : goal.returns-in-Primitive-clause-pinned
returns-in-Primitive-clause-pinned c =
    let i = c.args.item.now in
    IfOk-weaker c.write_primitive.result _ _ (λ said x. body_primitive i.bit i.size c.args.kind i.contents.now said c.in-Primitive.is x) c.write_primitive.ensures.pinned

pub returns-in-Constructed-clause-pinned : goal.returns-in-Constructed-clause-pinned
returns-in-Constructed-clause-pinned c =
    let i = c.args.item.now in
    body_constructed i.bit i.size c.args.kind i.contents.now _ c.in-Constructed.is (subst (λ b. c.unless.result ≡ (if b then None else Some Indefinite)) c.is_some.ensures c.unless.ensures)
