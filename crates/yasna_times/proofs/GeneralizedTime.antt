-- GeneralizedTime: a text says one moment.
use Rattle.std.proofs.Common.{◌≡◌, ℕ, List, ℤ, pos, refl, sym, ◌∙◌, ap, subst, Option, Bool, true, false, ◌==◌, if◌then◌else◌, ◌%◌}
use Rattle.jiff.specs.Types.{DateTime}
use Rattle.yasna_times.specs.Decimal.{two_at}
use Rattle.yasna_times.specs.Fraction.{IsReducedFraction}
use Rattle.yasna_times.specs.GeneralizedTime.{IsGeneralClock, IsGeneralReading, IsGeneralText, IsLayout, is_leap, part_digits, second_of, unit_of}
use Rattle.yasna_times.specs.Moment.{Moment, moment_at}
use Rattle.yasna_times.proofs.ExactFraction.{exact_is}
use Rattle.yasna_times.proofs.Moment.{clock_is, one_utc, second_shown}
use Rattle.yasna_times.proofs.OneLayout.{layout_is}

pub general_clock_is : (s : List ℕ) (end seconds : ℕ) (a b : DateTime) → IsGeneralClock s end seconds a → IsGeneralClock s end seconds b → a ≡ b
general_clock_is s end seconds a b x y = clock_is a b _ _ _ _ _ _ _ x.date y.date x.time y.time

pub reading_is : (s : List ℕ) (end seconds : ℕ) (offset : ℤ) (a b : DateTime) → IsGeneralReading s end seconds offset a →
    IsGeneralReading s end seconds offset b → a ≡ b
reading_is s end seconds offset a b x y =
    one_utc x.local y.local a b offset offset (general_clock_is s end seconds x.local y.local x.clock y.clock) refl x.less y.less

-- what a text says, by a layout of it and what its fraction comes to
pub record SpellsAt (s : List ℕ) (end seconds : ℕ) (offset : ℤ) (g : List ℕ) (m : Moment) : Type 0 where
  pub utc : DateTime
  pub reading : IsGeneralReading s end seconds offset utc
  pub is : m ≡ moment_at utc (is_leap s end) g

pub spells_at : (s : List ℕ) (given : Option ℤ) (end zone : ℕ) (offset : ℤ) (seconds : ℕ) (g : List ℕ) (m : Moment) → IsLayout s given end zone offset →
    IsReducedFraction (unit_of end) (part_digits s end zone) seconds g → IsGeneralText s given m → SpellsAt s end seconds offset g m
spells_at s given end zone offset seconds g m l x t =
    let w = layout_is s given end zone t.end t.zone offset t.offset l t.layout in
    let x₁ = subst (λ (p : ℕ). IsReducedFraction (unit_of p) (part_digits s p t.zone) t.seconds m.fraction) w.same_end t.exact in
    let x₂ = subst (λ (f : ℕ). IsReducedFraction (unit_of end) (part_digits s end f) t.seconds m.fraction) w.same_zone x₁ in
    let k = exact_is (unit_of end) (part_digits s end zone) t.seconds seconds m.fraction g x₂ x in
    let r₁ = subst (λ (p : ℕ). IsGeneralReading s p t.seconds t.offset t.utc) w.same_end t.reading in
    let r₂ = subst (λ (n : ℕ). IsGeneralReading s end n t.offset t.utc) k.0 r₁ in
    record {
      utc = t.utc;
      reading = subst (λ (z : ℤ). IsGeneralReading s end seconds z t.utc) w.same_offset r₂;
      is = t.is ∙ ap (λ p. moment_at t.utc (is_leap s p) m.fraction) w.same_end ∙ ap (moment_at t.utc (is_leap s end)) k.1;
    }

-- a text says one moment
pub general_text_is : (s : List ℕ) (given : Option ℤ) (a b : Moment) → IsGeneralText s given a → IsGeneralText s given b → a ≡ b
general_text_is s given a b t u =
    let r = spells_at s given t.end t.zone t.offset t.seconds a.fraction b t.layout t.exact u in
    t.is ∙ ap (λ dt. moment_at dt (is_leap s t.end) a.fraction) (reading_is s t.end t.seconds t.offset t.utc r.utc t.reading r.reading) ∙ sym r.is

pub pos_is : (a b : ℕ) → pos a ≡ pos b → a ≡ b
pos_is a b e = cc

leap_second_shown : (a b : Bool) (x y : ℕ) → (if a then b else false) ≡ true → (if a then (if b then 59 else x) else y) ≡ 59
leap_second_shown true true x y e = refl
leap_second_shown true false x y e = cc
leap_second_shown false b x y e = cc

leap_second : (s : List ℕ) (end seconds : ℕ) → is_leap s end ≡ true → second_of s end seconds ≡ 59
leap_second s end seconds e = leap_second_shown (end == 14) (two_at s 12 == 60) (two_at s 12) (seconds % 60) e

-- second 60 is kept as second 59
pub reading_flagged : (s : List ℕ) (end seconds : ℕ) (offset : ℤ) (utc : DateTime) → IsGeneralReading s end seconds offset utc → is_leap s end ≡ true →
    utc.time.second ≡ 59
reading_flagged s end seconds offset utc r e =
    second_shown r.local utc offset (r.whole e) r.less ∙ pos_is r.local.time.second 59 (r.clock.time.2 ∙ ap pos (leap_second s end seconds e))
