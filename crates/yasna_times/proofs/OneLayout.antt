-- A text has one layout.
use Rattle.std.proofs.Common.{◌≡◌, ℕ, ◌+◌, ◌<◌, List, ℤ, Option, length, get_or, arith, inl, inr, subst}
use Rattle.std.proofs.lemmas.Bool.{cases_order, cases_lt}
use Rattle.yasna_times.specs.Decimal.{IsRun}
use Rattle.yasna_times.specs.GeneralizedTime.{IsDecimalMark, IsPart, IsZone, IsLayout}
use Rattle.yasna_times.proofs.Decimal.{run_is}
use Rattle.yasna_times.proofs.Zone.{zone_head, zone_is}

-- the fraction at i ends at j, where j is i if there is none
pub record EndsPart (s : List ℕ) (i j : ℕ) : Type 0 where
  pub some : (j ≡ i → ⊥) → IsDecimalMark (get_or s i 0) × IsRun s (i + 1) j
  pub none : j ≡ i → i < length s → IsDecimalMark (get_or s i 0) → ⊥

-- a fraction before a zone ends so
pub part_ends : (s : List ℕ) (given : Option ℤ) (i j : ℕ) (z : ℤ) → IsPart s i j → IsZone s given j z → EndsPart s i j
part_ends s given i j z (IsPart.none e) h =
    record {
      some = λ ne. absurd (ne e);
      none = λ same. (zone_head s given i z (subst (λ k. IsZone s given k z) e h)).no_decimal_mark;
    }
part_ends s given i j z (IsPart.some m more r) h = record { some = λ ne. (m, r); none = λ same. absurd (omega arith) }

-- a fraction before a zone ends at one place
pub part_is : (s : List ℕ) (given : Option ℤ) (i j k : ℕ) (z : ℤ) → EndsPart s i j → IsPart s i k → IsZone s given k z → k ≡ j
part_is s given i j k z p (IsPart.none e) h =
    let head = zone_head s given i z (subst (λ x. IsZone s given x z) e h) in
    elim (cases_order k j) [
      | inl same ↦ same
      | inr o ↦
          let ne : j ≡ i → ⊥ = λ f. elim o [ inl lt ↦ omega arith | inr gt ↦ omega arith ] in
          let q = p.some ne in
          absurd (head.no_decimal_mark (omega (arith, q.1.order, q.1.inside)) q.0)
    ]
part_is s given i j k z p (IsPart.some m more r) h =
    elim (cases_order j i) [
      | inl same ↦ absurd (p.none same (omega (arith, r.order, r.inside)) m)
      | inr o ↦
          let ne : j ≡ i → ⊥ = λ f. elim o [ inl lt ↦ omega arith | inr gt ↦ omega arith ] in
          run_is s (i + 1) k j r (p.some ne).1
    ]

-- the parts of a layout
pub record SameLayout (p f : ℕ) (z : ℤ) (end zone : ℕ) (offset : ℤ) : Type 0 where
  pub same_end : end ≡ p
  pub same_zone : zone ≡ f
  pub same_offset : offset ≡ z

-- the clock and the zone of a layout are where digits end
pub places_are : (s : List ℕ) (given : Option ℤ) (p f end zone : ℕ) (z : ℤ) → IsRun s 0 p → EndsPart s p f → IsLayout s given end zone z →
    (end ≡ p) × (zone ≡ f)
places_are s given p f end zone z r e l =
    let same = run_is s 0 end p l.clock r in
    (same, part_is s given p f zone z e (subst (λ k. IsPart s k zone) same l.part) l.at_end)

empty_part : (s : List ℕ) (i j : ℕ) → IsPart s i j → j ≡ i + 1 → ⊥
empty_part s i j (IsPart.none e) f = omega arith
empty_part s i j (IsPart.some m more r) f = omega arith

-- no fraction of no digits
pub no_empty_part : (s : List ℕ) (given : Option ℤ) (p f : ℕ) → IsRun s 0 p → EndsPart s p f → f ≡ p + 1 → (end zone : ℕ) (z : ℤ) →
    IsLayout s given end zone z → ⊥
no_empty_part s given p f r e one end zone z l =
    let w = places_are s given p f end zone z r e l in
    empty_part s end zone l.part (omega (arith, w.0, w.1))

-- where no zone is after the fraction there is no layout
pub no_zone_there : (s : List ℕ) (given : Option ℤ) (p f : ℕ) → IsRun s 0 p → EndsPart s p f → ((z : ℤ) → IsZone s given f z → ⊥) →
    (end zone : ℕ) (z : ℤ) → IsLayout s given end zone z → ⊥
no_zone_there s given p f r e none end zone z l =
    let w = places_are s given p f end zone z r e l in
    none z (subst (λ k. IsZone s given k z) w.1 l.at_end)

-- the fraction that was found
pub part_found : (s : List ℕ) (p f : ℕ) → EndsPart s p f → (f ≡ p + 1 → ⊥) → IsPart s p f
part_found s p f e ne =
    elim (cases_order f p) [
      | inl same ↦ IsPart.none same
      | inr o ↦
          let other : f ≡ p → ⊥ = λ g. elim o [ inl lt ↦ omega arith | inr gt ↦ omega arith ] in
          let q = e.some other in
          let more : p + 1 < f = elim (cases_lt (p + 1) f) [ inl lt ↦ lt | inr ge ↦ absurd (ne (omega (arith, q.1.order))) ] in
          IsPart.some q.0 more q.1
    ]

-- a text has one layout
pub layout_is : (s : List ℕ) (given : Option ℤ) (p f end zone : ℕ) (z offset : ℤ) → IsLayout s given p f z → IsLayout s given end zone offset →
    SameLayout p f z end zone offset
layout_is s given p f end zone z offset a b =
    let w = places_are s given p f end zone offset a.clock (part_ends s given p f z a.part a.at_end) b in
    record { same_end = w.0; same_zone = w.1; same_offset = zone_is s given f offset z (subst (λ k. IsZone s given k offset) w.1 b.at_end) a.at_end }
