use Rattle.std.proofs.Common.{refl, inr, arith}
use Rattle.std.proofs.lemmas.Int.{ints}
use Rattle.yasna_base.proofs.Digits.{slice_bytes}
use Rattle.yasna_bytes.proofs.Integer.{not_eight, encodes_signed}
use Rattle.yasna_bytes.proofs.bytes.contents.integer.I64Contents.of_contents.Goals as goal

pub returns-then-contents-gt8 : goal.returns-then-contents-gt8
returns-then-contents-gt8 c = inr (tt, not_eight c.args._mode c.args.contents.now c.if-contents-gt8.true)

pub returns : goal.returns
returns c = encodes_signed c.args._mode c.args.contents.now _ (slice_bytes c.args.contents.now c.type_inv.contents)
    ((c.if-not-is_minimal.ensures {u = tt}).0 refl) c.if-contents-gt8.false (let e = c.signed_of.ensures in omega (arith, ints))
