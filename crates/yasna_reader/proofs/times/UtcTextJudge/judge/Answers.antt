use Rattle.std.proofs.Common.{◌≡◌, ◌∙◌, refl, ap, inr}
use Rattle.yasna_times.specs.Models.{utc_of}
use Rattle.yasna_times.specs.UtcTime.{utc_text}
use Rattle.yasna_times.proofs.UtcTime.{utc_text_is}
use Rattle.yasna_reader.proofs.times.UtcTextJudge.judge.Goals as goal

pub returns-in-None : goal.returns-in-None
returns-in-None c = inr (tt, λ v x. c.in-None.ensures v x.text)

pub returns-then-not-requires_canonical : goal.returns-then-not-requires_canonical
returns-then-not-requires_canonical c = record {
  text = c.in-Some.ensures;
  canonical = λ h. let yes = c.if-not-requires_canonical.ensures.1 h in cc;
}

pub returns-then-is_canonical : goal.returns-then-is_canonical
returns-then-is_canonical c = record {
  text = c.in-Some.ensures;
  canonical = λ h. (c.if-is_canonical.ensures.canonical c.in-Some.ensures).0 refl;
}

pub returns-else-is_canonical : goal.returns-else-is_canonical
returns-else-is_canonical c =
    let time = utc_of c.in-Some.utc in
    inr (
      tt,
      λ v x.
          let same : v ≡ time = utc_text_is c.args.text.now v time x.text c.in-Some.ensures in
          let may_allocate_by = c.if-not-requires_canonical.ensures.0 refl in
          let canonical = x.canonical may_allocate_by ∙ ap utc_text same in
          let yes = (c.if-is_canonical.ensures.canonical c.in-Some.ensures).1 canonical in
          cc,
    )
