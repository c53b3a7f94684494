use Rattle.std.proofs.Common.{◌≡◌, ◌∙◌, ◌+◌, ◌*ℤ◌, ◌+ℤ◌, take, take_all, get_or, nat_lt, pos, to_z, sym, ap, arith}
use Rattle.std.specs.Int.{w128}
use Rattle.std.proofs.lemmas.Int.{ints}
use Rattle.yasna_base.specs.BigInteger.{signed_number}
use Rattle.yasna_bytes.proofs.Integer.{signed_more}
use Rattle.yasna_notation_constraints.specs.Numbers.{saturated}
use Rattle.yasna_notation_constraints.proofs.Saturating.{saturated_more, not_below, not_above, signed_all}
use Rattle.yasna_notation_constraints.proofs.big_numbers.nearest.Goals as goal

pub loop-place-preserved : goal.loop-place-preserved
loop-place-preserved c =
    let s = c.args.bytes.now in
    let i = c.loop-place.place in
    let d = get_or s i 0 in
    let p = nat_lt (get_or s 0 0) 128 in
    let z = signed_number p (take i s) in
    let e : to_z w128 c.loop-place.number-bits ≡ saturated z = c.loop-place.invariant in
    let m : signed_number p (take (i + 1) s) ≡ z *ℤ pos 256 +ℤ pos d = signed_more p s i c.loop-place-test.true in
    let b = c.type_inv.bytes i in
    let f : c.followed-number.result ≡ saturated (signed_number p (take (i + 1) s)) =
    c.followed-number.ensures ∙ ap (λ y. saturated (y *ℤ pos 256 +ℤ pos d)) e ∙ saturated_more z d (omega arith) ∙ ap saturated (sym m) in
    let low = not_below (signed_number p (take (i + 1) s)) in
    let high = not_above (signed_number p (take (i + 1) s)) in
    omega (arith, ints)

pub returns : goal.returns
returns c =
    let s = c.args.bytes.now in
    let i = c.loop-place.place in
    let p = nat_lt (get_or s 0 0) 128 in
    let e : to_z w128 c.loop-place.number-bits ≡ saturated (signed_number p (take i s)) = c.loop-place.invariant in
    e ∙ ap (λ l. saturated (signed_number p l)) (take_all i s (omega arith)) ∙ ap saturated (signed_all s)
