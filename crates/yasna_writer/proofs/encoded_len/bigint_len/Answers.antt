use Rattle.std.proofs.Common.{ℤ, length, ap, sym, ◌∙◌, subst, arith}
use Rattle.std.specs.Prelude.{true}
use Rattle.std.proofs.lemmas.Bool.{eqb-true, eqb-false}
use Rattle.yasna_base.specs.BigInteger.{signed_number}
use Rattle.yasna_base.specs.Integer.{integer_encoding}
use Rattle.yasna_writer.specs.Prepend.{KnownLength}
use Rattle.yasna_writer.proofs.Integers.{big_some, big_none}
use Rattle.yasna_writer.proofs.encoded_len.bigint_len.Goals as goal

pub returns-then-is_empty : goal.returns-then-is_empty
returns-then-is_empty c =
    let empty = ap length (sym c.trim_leading-rest.ensures) ∙ eqb-true _ 0 (sym (c.if-is_empty.ensures {u = tt})) in
    let number = ap (signed_number true) c.trim_leading-rest.ensures ∙ big_none c.args.positive c.args.bytes.now empty in
    λ m. subst (λ (z : ℤ). KnownLength (integer_encoding c.args.tag m z) c.signed_len.result) number (c.signed_len.ensures m)

pub returns : goal.returns
returns c =
    let some = eqb-false _ 0 (sym (c.if-is_empty.ensures {u = tt})) in
    let rest = ap length c.trim_leading-rest.ensures in
    let number = ap (signed_number c.args.positive) c.trim_leading-rest.ensures ∙ big_some c.args.positive c.args.bytes.now (omega arith) in
    λ m. subst (λ (z : ℤ). KnownLength (integer_encoding c.args.tag m z) c.signed_len-2.result) number (c.signed_len-2.ensures m)
