use Rattle.std.proofs.Common.{◌≡◌, ◌∙◌, sym, subst, arith, ℕ, ◌∷◌}
use Rattle.yasna_base.proofs.Lists.{empty_is}
use Rattle.yasna_base.proofs.Digits.{all_bytes}
use Rattle.yasna_base.proofs.Base128.{zero_first, passes, cut_off, scans_start, scans_more, scans_found}
use Rattle.yasna_base.proofs.bytes.base128.read_base128.Goals as goal
use Rattle.yasna_base.proofs.bytes.base128.read_base128.Goals.{else-number-eq0-via-then-number-eq0+else-byte, else-number-eq0-via-else-number-eq0}

pub loop-byte-init : goal.loop-byte-init
loop-byte-init c = scans_start c.args.s.now (all_bytes c.args.s.now (λ i. let f = c.type_inv.s i in omega arith))

pub loop-byte-preserved : goal.loop-byte-preserved
loop-byte-preserved c =
    let e = c.from-in-Some.ensures in
    let f : c.loop-byte.number ≡ 0 → c.in-Some.byte.now ≡ 128 →
    ⊥ = elim c.else-number-eq0.branch [
      | else-number-eq0-via-then-number-eq0+else-byte w ↦ λ n b. w.if-byte.false b
      | else-number-eq0-via-else-number-eq0
          w ↦ λ n b. w.if-number-eq0.false n
    ] in
    rw e (scans_more c.args.s.now c.loop-byte.number c.in-Some.byte.now c.loop-byte.rest.now c.in-Some.after.now c.loop-byte.invariant
    (c.in-Some.ensures {u = tt}).cases.0 (omega arith) f)

pub returns-then-byte : goal.returns-then-byte
returns-then-byte c = (
  tt,
  zero_first c.args.s.now c.in-Some.after.now
      (sym (c.loop-byte.invariant.begun c.if-number-eq0.true) ∙ subst (λ (x : ℕ). c.loop-byte.rest.now ≡ x ∷ c.in-Some.after.now) c.if-byte.true
      (c.in-Some.ensures {u = tt}).cases.0),
)

pub returns-then-number-ge-LEAST_TOO_LARGE : goal.returns-then-number-ge-LEAST_TOO_LARGE
returns-then-number-ge-LEAST_TOO_LARGE c = (
  tt,
  passes c.loop-byte.number c.in-Some.byte.now c.args.s.now c.loop-byte.rest.now c.in-Some.after.now c.loop-byte.invariant.in_bytes
      (c.in-Some.ensures {u = tt}).cases.0 c.loop-byte.invariant.same c.if-number-ge-LEAST_TOO_LARGE.true,
)

pub returns-then-byte-lt128 : goal.returns-then-byte-lt128
returns-then-byte-lt128 c =
    let e = c.from.ensures in
    let f = scans_found c.args.s.now c.loop-byte.number c.in-Some.byte.now c.loop-byte.rest.now c.in-Some.after.now
    (all_bytes c.args.s.now (λ i. let f = c.type_inv.s i in omega arith)) c.loop-byte.invariant (c.in-Some.ensures {u = tt}).cases.0 c.if-byte-lt128.true in
    rw e f

pub returns : goal.returns
returns c = (
  tt,
  cut_off c.loop-byte.number c.args.s.now c.loop-byte.rest.now (empty_is c.loop-byte.rest.now (c.in_default.ensures {u = tt}).cases)
      c.loop-byte.invariant.same,
)
