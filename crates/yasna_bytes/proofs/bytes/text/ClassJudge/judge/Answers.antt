use Rattle.std.proofs.Common.{refl}
use Rattle.yasna_bytes.proofs.Text.{class_rejected, utf8_judged, bmp_judged}
use Rattle.yasna_bytes.proofs.bytes.text.ClassJudge.judge.Goals as goal

pub returns-then-not-may_hold : goal.returns-then-not-may_hold
returns-then-not-may_hold c =
    class_rejected c.args.self c.args._mode c.args.octets.now (λ h. let z = (c.if-not-may_hold.ensures {u = tt}).1 h in cc)

pub returns-in-Bmp : goal.returns-in-Bmp
returns-in-Bmp c =
    let h = (c.if-not-may_hold.ensures {u = tt}).0 refl in
    bmp_judged c.args.self c.args._mode c.args.octets.now c.utf16_text.result c.in-Bmp.is h c.utf16_text.ensures

pub returns-in_default : goal.returns-in_default
returns-in_default c =
    let h = (c.if-not-may_hold.ensures {u = tt}).0 refl in
    utf8_judged c.args.self c.args._mode c.args.octets.now c.utf8_text.result c.in_default.not-Bmp h c.utf8_text.ensures
