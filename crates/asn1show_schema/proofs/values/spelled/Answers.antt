use Rattle.std.proofs.Common.{◌≡◌, ◌+◌, ◌*◌, ◌^◌, ◌≤◌, sym, ap₂, subst, ◌∙◌, arith}
use Rattle.std.specs.Prelude.{MatchOption}
use Rattle.asn1show_schema.specs.Values.{spelled_number}
use Rattle.asn1show_schema.proofs.Numbers.{spelled_more, spelled_large, not_less}
use Rattle.asn1show_schema.proofs.values.spelled.Goals as goal

pub returns-in_err-checked_mul : goal.returns-in_err-checked_mul
returns-in_err-checked_mul c =
    let b = c.args.is_negative in
    let s = c.args.octets.now in
    let sum = c.loop-octet.sum in
    let full = not_less (sum * 256) (2 ^ 64) (c.in_err-checked_mul.ensures {u = tt}) in
    let large = spelled_large b s c.loop-octet.octet-index sum c.loop-octet-test.true c.loop-octet.invariant (omega (arith, full)) in
    subst (λ o. MatchOption o (2 ^ 64 ≤ spelled_number b s) (λ n. n ≡ spelled_number b s)) (sym c.from_residual.ensures) large

pub loop-octet-preserved : goal.loop-octet-preserved
loop-octet-preserved c =
    (c.in_ok-sum.ensures {u = tt}).1 ∙ ap₂ (λ m d. m + d) (c.in_ok-checked_mul.ensures {u = tt}).1 (c.from.ensures ∙ c.digit_of.ensures) ∙
    spelled_more c.args.is_negative c.args.octets.now c.loop-octet.octet-index c.loop-octet.sum c.loop-octet-test.true c.loop-octet.invariant
