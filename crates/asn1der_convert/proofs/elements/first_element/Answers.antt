use Rattle.std.proofs.Common.{subst}
use Rattle.yasna_base.specs.declared.mode.BERMode.{BERMode}
use Rattle.yasna_base.specs.declared.mode.BERMode.TheVariants.{Ber}
use Rattle.yasna_bytes.specs.Walk.{TakesRaw}
use Rattle.asn1der_convert.proofs.Rows.{first_taken, none_taken}
use Rattle.asn1der_convert.proofs.elements.first_element.Goals as goal

pub returns-in-Ok : goal.returns-in-Ok
returns-in-Ok c =
    let n = c.start.result.levels in
    let x = c.in-Ok.taken.0 in
    let r = c.in-Ok.taken.1.now in
    let one = subst (λ (m : BERMode). TakesRaw m n c.start.result.left.now x r) c.start.ensures.mode (c.in-Ok.ensures {u = tt}) in
    first_taken n c.args.elements.now x r c.start.ensures.levels (subst (λ s. TakesRaw Ber n s x r) c.start.ensures.left one)

pub returns-in-Err : goal.returns-in-Err
returns-in-Err c =
    none_taken c.start.result.mode c.start.result.levels c.start.result.left.now c.args.elements.now _ c.start.ensures.mode c.start.ensures.levels c.start.ensures.left
    (c.in-Err.ensures {u = tt})
