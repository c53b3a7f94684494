use Rattle.std.proofs.Common.{◌≡◌, Err, true, false, rules, sym, subst}
use Rattle.yasna_base.specs.declared.error.ASN1Error.{ASN1Error}
use Rattle.yasna_notation_types.specs.Bmp.{has_known}
use Rattle.yasna_notation_types.proofs.Bmp.{ReadsKnown, known_read, unknown_read, no_text_read}
use Rattle.yasna_notation_types.proofs.bmp_string.BmpStringNotation.read.Goals as goal

pub returns : goal.returns
returns c =
    let is : has_known c.in_ok-text.text ≡ true = search rules in
    known_read c.args.reader.now c.read_bmp_string.result c.read_bmp_string.new.self c.read_bmp_string.ensures c.in_ok-text.text c.in_ok-text.was is

pub returns-then-not-is_known : goal.returns-then-not-is_known
returns-then-not-is_known c =
    let s = c.args.reader.now in
    let r = c.read_bmp_string.result in
    let left = c.read_bmp_string.new.self in
    let h = c.read_bmp_string.ensures in
    let is : has_known c.in_ok-text.text ≡ false = search rules in
    subst (λ (e : ASN1Error). ReadsKnown s r left h (Err e)) (sym c.new.ensures) (unknown_read s r left h c.in_ok-text.text c.in_ok-text.was is)

pub returns-in_err-text : goal.returns-in_err-text
returns-in_err-text c =
    let is : c.from_residual.result ≡ Err c.in_err-text.field-0.0 = search rules in
    rw is (no_text_read c.args.reader.now c.read_bmp_string.result c.read_bmp_string.new.self c.read_bmp_string.ensures c.in_err-text.field-0.0
    c.in_err-text.was)
