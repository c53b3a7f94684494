use Rattle.std.proofs.Common.{◌+◌, ◌^◌, sym, subst, arith}
use Rattle.yasna_base.proofs.Digits.{slice_bytes}
use Rattle.asn1show_schema.specs.Values.{NumberAt}
use Rattle.asn1show_schema.proofs.Numbers.{positive_found, negative_found, positive_none, negative_none, not_less, no_sign}
use Rattle.asn1show_schema.proofs.values.number_of.Goals as goal

pub returns-then-has_sign_bit : goal.returns-then-has_sign_bit
returns-then-has_sign_bit c =
    let contents = c.args.contents.now in
    negative_found contents c.in_ok-spelled.field-0 c.in_ok-checked_add.field-0 (slice_bytes contents c.type_inv.contents) (c.has_sign_bit.ensures.0 c.if-has_sign_bit.true)
    (c.in_ok-spelled.ensures {u = tt}) (c.in_ok-checked_add.ensures {u = tt}).1

pub returns-in_err-spelled : goal.returns-in_err-spelled
returns-in_err-spelled c =
    let contents = c.args.contents.now in
    let large = c.in_err-spelled.ensures {u = tt} in
    subst (NumberAt contents) (sym c.from_residual.ensures)
    (negative_none contents (slice_bytes contents c.type_inv.contents) (c.has_sign_bit.ensures.0 c.if-has_sign_bit.true) (omega (arith, large)))

pub returns-in_err-checked_add : goal.returns-in_err-checked_add
returns-in_err-checked_add c =
    let contents = c.args.contents.now in
    let large = not_less (c.in_ok-spelled.field-0 + 1) (2 ^ 64) (c.in_err-checked_add.ensures {u = tt}) in
    let same = c.in_ok-spelled.ensures {u = tt} in
    subst (NumberAt contents) (sym c.from_residual-in_err-checked_add.ensures)
    (negative_none contents (slice_bytes contents c.type_inv.contents) (c.has_sign_bit.ensures.0 c.if-has_sign_bit.true) (omega (arith, large, same)))

pub returns-in_err-spelled-2 : goal.returns-in_err-spelled-2
returns-in_err-spelled-2 c =
    let contents = c.args.contents.now in
    subst (NumberAt contents) (sym c.from_residual-in_err-spelled-2.ensures)
    (positive_none contents (no_sign c.has_sign_bit.result contents c.if-has_sign_bit.false c.has_sign_bit.ensures) (c.in_err-spelled-2.ensures {u = tt}))

pub returns : goal.returns
returns c =
    let contents = c.args.contents.now in
    positive_found contents c.in_ok-spelled-2.field-0 (no_sign c.has_sign_bit.result contents c.if-has_sign_bit.false c.has_sign_bit.ensures)
    (c.in_ok-spelled-2.ensures {u = tt})
