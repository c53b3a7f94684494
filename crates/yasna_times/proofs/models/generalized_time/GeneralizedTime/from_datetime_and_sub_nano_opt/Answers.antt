use Rattle.std.proofs.Common.{◌≡◌, ◌∙◌, arith, refl, sym, subst}
use Rattle.yasna_times.specs.Decimal.{AreDigits}
use Rattle.yasna_times.specs.Fraction.{IsTrimmed, trimmed}
use Rattle.yasna_times.proofs.Fraction.{trimmed_digits, is_trimmed}
use Rattle.yasna_times.proofs.models.generalized_time.GeneralizedTime.from_datetime_and_sub_nano_opt.Goals as goal

pub invariant_of-result : goal.invariant_of-result
invariant_of-result c =
    let ds = c.args.sub_nano.now in
    let given : AreDigits ds = λ k h. c.if-not-are_digits.ensures.0 refl k (omega arith) h in
    let e : c.in_ok-copied.field-0.items ≡ trimmed ds = c.in_ok-copied.ensures.items ∙ c.trim.ensures in
    record {
      in_years = c.in-Some.ensures.0;
      digits = subst AreDigits (sym e) (trimmed_digits ds given);
      trimmed = subst IsTrimmed (sym e) (is_trimmed ds);
      flagged = λ f. cc;
    }
