use Rattle.std.proofs.Common.{◌≡◌, suc, ◌+◌, ◌*◌, rules, arith, refl, get_or, ap, ◌∙◌}
use Rattle.yasna_base.proofs.Digits.{slice_bytes}
use Rattle.yasna_writer.specs.SortKey.{key_number}
use Rattle.yasna_writer.proofs.SortKeys.{key_fits}
use Rattle.yasna_writer.proofs.ordered_part.key_of.Goals as goal

pub loop-place-init : goal.loop-place-init
loop-place-init c = (refl, omega arith)

pub overflow_mul-key : goal.overflow_mul-key
overflow_mul-key c =
    let f = key_fits c.loop-place.place c.args.bytes.now (slice_bytes c.args.bytes.now c.type_inv.bytes) (omega (arith, c.loop-place-test.true)) in
    omega (arith, f, c.loop-place.invariant.0)

pub overflow_add-key : goal.overflow_add-key
overflow_add-key c =
    let f = key_fits c.loop-place.place c.args.bytes.now (slice_bytes c.args.bytes.now c.type_inv.bytes) (omega (arith, c.loop-place-test.true)) in
    omega (arith, f, c.loop-place.invariant.0, c.from.ensures, c.unwrap_or-byte.type_inv)

pub loop-place-preserved : goal.loop-place-preserved
loop-place-preserved c =
    let place = c.loop-place.place in
    let byte : c.unwrap_or-byte.result ≡ get_or c.args.bytes.now place 0 = search rules in
    let next : suc place ≡ place + 1 = omega arith in (
      ap (λ n. n * 256 + c.from.result) c.loop-place.invariant.0 ∙ ap (λ b. key_number place c.args.bytes.now * 256 + b) (c.from.ensures ∙ byte) ∙
          ap (λ n. key_number n c.args.bytes.now) next,
      omega (arith, c.loop-place-test.true),
    )

pub returns : goal.returns
returns c =
    let e : c.loop-place.place ≡ 8 = omega (arith, c.loop-place-test.false, c.loop-place.invariant.1) in
    record { in_bytes = λ i. let f = c.type_inv.bytes i in omega arith; spells = c.loop-place.invariant.0 ∙ ap (λ n. key_number n c.args.bytes.now) e }
