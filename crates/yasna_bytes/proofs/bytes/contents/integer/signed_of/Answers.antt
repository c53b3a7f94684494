use Rattle.std.proofs.Common.{◌≡◌, ◌∙◌, ◌+◌, ◌-◌, ◌*ℤ◌, ◌+ℤ◌, FitsSigned, length, take, take_all, get_or, nat_lt, pos, to_z, sym, ap, subst, [], arith}
use Rattle.std.specs.Int.{w64}
use Rattle.std.proofs.lemmas.Int.{ints}
use Rattle.yasna_base.specs.BigInteger.{signed_number}
use Rattle.yasna_base.proofs.Digits.{slice_bytes}
use Rattle.yasna_bytes.proofs.Integer.{room_of, signed_more, start_is, step_of_eight, twos_signed}
use Rattle.yasna_bytes.proofs.bytes.contents.integer.signed_of.Goals as goal
use Rattle.yasna_bytes.proofs.bytes.contents.integer.signed_of.Goals.{then-contents-lt128, else-contents-lt128}

pub returns-then-contents-eq1 : goal.returns-then-contents-eq1
returns-then-contents-eq1 c =
    let s = c.args.contents.now in
    let p = nat_lt (get_or s 0 0) 128 in
    let f = c.type_inv.contents 0 in
    let e : to_z w64 c.if-contents-lt128.number-bits ≡ signed_number (nat_lt (get_or s 0 0) 128) [] = elim c.if-contents-lt128.branch [
      | then-contents-lt128 w ↦ start_is (get_or s 0 0) (to_z w64 c.if-contents-lt128.number-bits)
          (λ _. omega (arith, ints, w.number-is, c.if-contents-lt128.number-is)) (λ h. absurd (omega (arith, w.if-contents-lt128.true)))
      | else-contents-lt128 w ↦ start_is (get_or s 0 0) (to_z w64 c.if-contents-lt128.number-bits)
          (λ h. absurd (omega (arith, w.if-contents-lt128.false))) (λ _. omega (arith, ints, w.number-is, c.if-contents-lt128.number-is))
    ] in
    let h : to_z w64 c.if-contents-lt128.number-bits ≡ signed_number (nat_lt (get_or s 0 0) 128) (take 0 s) = e in
    let r = room_of s 0 (slice_bytes s c.type_inv.contents) c.requires.few (omega arith) (omega arith) in
    let x = r.product in
    let y = r.sum in
    let m : signed_number (nat_lt (get_or s 0 0) 128) (take 1 s) ≡ signed_number (nat_lt (get_or s 0 0) 128) (take 0 s) *ℤ pos 256 +ℤ pos (get_or s 0 0) =
    signed_more p s 0 (omega arith) in
    let d = c.from.ensures in
    let a = ap (signed_number (nat_lt (get_or s 0 0) 128)) (take_all 1 s (omega arith)) ∙ twos_signed s c.requires.some in
    omega (arith, ints)

pub loop-place-init : goal.loop-place-init
loop-place-init c =
    let s = c.args.contents.now in
    let e : to_z w64 c.if-contents-lt128.number-bits ≡ signed_number (nat_lt (get_or s 0 0) 128) [] = elim c.if-contents-lt128.branch [
      | then-contents-lt128 w ↦ start_is (get_or s 0 0) (to_z w64 c.if-contents-lt128.number-bits)
          (λ _. omega (arith, ints, w.number-is, c.if-contents-lt128.number-is)) (λ h. absurd (omega (arith, w.if-contents-lt128.true)))
      | else-contents-lt128 w ↦ start_is (get_or s 0 0) (to_z w64 c.if-contents-lt128.number-bits)
          (λ h. absurd (omega (arith, w.if-contents-lt128.false))) (λ _. omega (arith, ints, w.number-is, c.if-contents-lt128.number-is))
    ] in
    let k : 0 ≡ length s + 0 - 8 = omega arith in
    subst (λ i. to_z w64 c.if-contents-lt128.number-bits ≡ signed_number (nat_lt (get_or s 0 0) 128) (take i s)) k e

pub overflow_mul-number : goal.overflow_mul-number
overflow_mul-number c =
    let s = c.args.contents.now in
    let b = length s + c.loop-place.place in
    let f = c.type_inv.contents (b - 8) in
    let t = step_of_eight s b c.extended-byte.result (slice_bytes s c.type_inv.contents) c.requires.few (omega arith) (omega arith)
    c.extended-byte.ensures.positive c.extended-byte.ensures.negative c.extended-byte.ensures.contents in
    let e : to_z w64 c.loop-place.number-bits ≡ signed_number (nat_lt (get_or s 0 0) 128) (take (b - 8) s) = c.loop-place.invariant in
    subst (λ z. FitsSigned w64 (z *ℤ pos 256)) (sym e) t.room.product

pub loop-place-preserved : goal.loop-place-preserved
loop-place-preserved c =
    let s = c.args.contents.now in
    let b = length s + c.loop-place.place in
    let f = c.type_inv.contents (b - 8) in
    let t = step_of_eight s b c.extended-byte.result (slice_bytes s c.type_inv.contents) c.requires.few (omega arith) (omega arith)
    c.extended-byte.ensures.positive c.extended-byte.ensures.negative c.extended-byte.ensures.contents in
    let e : to_z w64 c.loop-place.number-bits ≡ signed_number (nat_lt (get_or s 0 0) 128) (take (b - 8) s) = c.loop-place.invariant in
    let k : length s + (c.loop-place.place + 1) - 8 ≡ b + 1 - 8 = omega arith in
    let m = ap (λ i. signed_number (nat_lt (get_or s 0 0) 128) (take i s)) k in
    let p = t.room.product in
    let q = t.room.sum in
    let r = t.more in
    let d = c.from-in-loop-place.ensures in
    omega (arith, ints)

pub returns : goal.returns
returns c =
    let s = c.args.contents.now in
    let i = length s + c.loop-place.place - 8 in
    let e : to_z w64 c.loop-place.number-bits ≡ signed_number (nat_lt (get_or s 0 0) 128) (take i s) = c.loop-place.invariant in
    e ∙ ap (signed_number (nat_lt (get_or s 0 0) 128)) (take_all i s (omega arith)) ∙ twos_signed s c.requires.some
