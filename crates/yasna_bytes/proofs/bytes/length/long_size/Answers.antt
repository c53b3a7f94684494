use Rattle.std.proofs.Common.{◌≡◌, ◌∙◌, ◌-◌, length, arith}
use Rattle.yasna_base.proofs.Digits.{slice_bytes}
use Rattle.yasna_bytes.proofs.Length.{none_counted, none_left, digits_measured}
use Rattle.yasna_bytes.proofs.bytes.length.long_size.Goals as goal

pub returns-then-first-eq255 : goal.returns-then-first-eq255
returns-then-first-eq255 c = none_counted c.args.mode c.args.first c.args.s.now c.if-first-eq255.true

pub returns-in-Some : goal.returns-in-Some
returns-in-Some c =
    let e = c.from.ensures in
    let w = c.in-Some.ensures {u = tt} in
    let l : length c.in-Some.digits.now ≡ c.args.first - 128 = w.0 ∙ e in
    digits_measured c.args.mode c.args.first c.args.s.now c.in-Some.digits.now _ c.size_of.result
    (omega (arith, c.ranges.first), slice_bytes c.args.s.now c.type_inv.s) (omega (arith, c.requires)) (omega (arith, c.ranges.first)) l w.1 c.size_of.ensures

pub returns-in-None : goal.returns-in-None
returns-in-None c =
    let e = c.from.ensures in
    none_left c.args.mode c.args.first c.args.s.now (omega (arith, c.requires)) (omega (arith, e, c.in-None.ensures {u = tt}))
