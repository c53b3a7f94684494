use mir.Val.{SFits}
use Rattle.std.proofs.Common.{◌≡◌, ℤ, pos, ap, ◌∙◌, subst, arith, rules}
use Rattle.std.specs.Prelude.{true}
use Rattle.std.specs.Int.{w64}
use Rattle.std.proofs.lemmas.Int.{to_z-of_z}
use Rattle.yasna_base.specs.BigInteger.{signed_number}
use Rattle.yasna_base.specs.Integer.{integer_encoding}
use Rattle.yasna_writer.specs.Prepend.{KnownLength}
use Rattle.yasna_writer.proofs.BigEndian.{be_unsigned}
use Rattle.yasna_writer.proofs.encoded_len.u64_len.Goals as goal

pub returns-in-Ok : goal.returns-in-Ok
returns-in-Ok c =
    let fits : SFits w64 c.in-Ok.signed = search rules in
    let same : c.in-Ok.signed ≡ pos c.args.val = search rules in
    λ m. subst (λ (z : ℤ). KnownLength (integer_encoding c.args.tag m z) c.i64_len.result) (to_z-of_z w64 c.in-Ok.signed fits ∙ same) (c.i64_len.ensures m)

pub returns-in-Err : goal.returns-in-Err
returns-in-Err c =
    let same = ap (signed_number true) c.to_be_bytes.ensures ∙ be_unsigned c.args.val (omega (arith, c.ranges.val.fits)) in
    λ m. subst (λ (z : ℤ). KnownLength (integer_encoding c.args.tag m z) c.signed_len.result) same (c.signed_len.ensures m)
