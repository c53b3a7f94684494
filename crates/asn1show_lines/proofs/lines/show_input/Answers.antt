use Rattle.std.proofs.Common.{◌≡◌, IfErr, subst}
use Rattle.asn1show_walk.specs.Errors.{IsExternal, WalkFails}
use Rattle.asn1_input.specs.Input.{IsTakenAs}
use Rattle.asn1show_lines.specs.Input.{HoldsNone}
use Rattle.asn1_input.specs.Text.{text_of}
use Rattle.asn1_input.specs.declared.input_format.InputFormat.TheVariants.{Bytes}
use Rattle.asn1_input.proofs.Detected.{detected_once}
use Rattle.asn1_input.proofs.Taking.{on_ok_both}
use Rattle.asn1show_lines.proofs.lines.show_input.Goals as goal

pub returns-in-None-clause-raw : goal.returns-in-None-clause-raw
returns-in-None-clause-raw g c =
    let input = c.args.input.now in
    on_ok_both c.show_format-in-None.result c.show_format-in-None.ensures.raw c.show_format-in-None.ensures.raw
    (λ a b taken. a (detected_once (text_of input) c.format_of.result Bytes c.format_of.ensures (subst (λ z. IsTakenAs z input Bytes) c.in-None.is taken)))

pub returns-in-None-clause-fails : goal.returns-in-None-clause-fails
returns-in-None-clause-fails g c taken is =
    let input = c.args.input.now in
    let same : c.format_of.result ≡ taken =
    detected_once (text_of input) c.format_of.result taken c.format_of.ensures (subst (λ z. IsTakenAs z input taken) c.in-None.is is) in
    subst (λ z. IfErr c.show_format-in-None.result (λ f. WalkFails IsExternal (HoldsNone c.args.mode z input) f)) same c.show_format-in-None.ensures.fails
