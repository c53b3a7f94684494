use Rattle.std.proofs.Common.{◌≡◌, ◌∙◌, refl, ap, inr, None}
use Rattle.yasna_times.specs.GeneralizedTime.{general_text}
use Rattle.yasna_times.specs.Models.{moment_of}
use Rattle.yasna_times.proofs.GeneralizedTime.{general_text_is}
use Rattle.yasna_reader.proofs.times.GeneralTextJudge.judge.Goals as goal

pub returns-in-Ok-None : goal.returns-in-Ok-None
returns-in-Ok-None c =
    let none = (rw c.in-Ok-None.field-0-is at (c.in-Ok-None.ensures {u = tt})).exact in
    inr (tt, λ v x. none v x.text)

pub returns-then-not-requires_canonical : goal.returns-then-not-requires_canonical
returns-then-not-requires_canonical c = record {
  text = (rw c.in-Ok-Some.field-0-is at (c.in-Ok-Some.ensures {u = tt})).exact;
  canonical = λ h. let yes = c.if-not-requires_canonical.ensures.1 h in cc;
}

pub returns-then-is_canonical : goal.returns-then-is_canonical
returns-then-is_canonical c = record {
  text = (rw c.in-Ok-Some.field-0-is at (c.in-Ok-Some.ensures {u = tt})).exact;
  canonical = λ h. c.if-is_canonical.ensures.0 refl;
}

pub returns-else-is_canonical : goal.returns-else-is_canonical
returns-else-is_canonical c =
    let time = moment_of c.in-Ok-Some.time in
    let obeys = (rw c.in-Ok-Some.field-0-is at (c.in-Ok-Some.ensures {u = tt})).exact in
    inr (
      tt,
      λ v x.
          let same : v ≡ time = general_text_is c.args.text.now None v time x.text obeys in
          let may_allocate_by = c.if-not-requires_canonical.ensures.0 refl in
          let canonical = x.canonical may_allocate_by ∙ ap general_text same in
          let yes = c.if-is_canonical.ensures.1 canonical in
          cc,
    )
