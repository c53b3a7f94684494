-- How segments are cut, as they are read one after the other.
use Rattle.std.proofs.Common.{◌≡◌, ◌↔◌, ℕ, ◌+◌, ◌≤◌, List, [], ◌∷◌, ◌++◌, length, map, Bool, true, false, ◌&&◌, IsTrue, nat_eq, nat_le, refl, sym, ap, subst, ◌∙◌, arith, length-append}
use Rattle.std.proofs.lemmas.Bool.{le-leb, leb-true, eqb-true, eq-eqb}
use Rattle.std.proofs.lemmas.List.{length-map, map-append}
use Rattle.std.specs.List.{AllByRecursion}
use Rattle.yasna_base.specs.declared.mode.BERMode.{BERMode}
use Rattle.yasna_base.specs.declared.mode.BERMode.TheVariants.{Ber, Der, Cer}
use Rattle.yasna_base.specs.Segmented.{Segmentation, FallsInto}
use Rattle.yasna_base.specs.Segments.{AreSegments}
use Rattle.yasna_bytes.specs.declared.bytes.segments.cuts.Cuts.{Cuts}
use Rattle.yasna_bytes.specs.Segments.{AreCut, AcceptsCuts, further_cut}

both : (a b : Bool) → IsTrue (a && b) ↔ (IsTrue a × IsTrue b)
both true b = (λ h. (refl, h), λ h. h.1)
both false b = (λ h. absurd (cc), λ h. h.0)

-- of no segments
pub none_cut : {A : Type 0} (k : Segmentation A) → AreCut k [] (record { some = false; full = true; even = false })
none_cut k = record {
  some = (λ h. absurd (cc), λ h. absurd (omega (arith, h)));
  full = (λ h. tt, λ h. refl);
  even = (λ h. absurd (cc), λ h. absurd (h.0));
}

-- all of a list and one more
all_more : (P : List ℕ → Type 0) (bs : List (List ℕ)) (b : List ℕ) → AllByRecursion P (bs ++ (b ∷ [])) ↔ (AllByRecursion P bs × P b)
all_more P [] b = (λ h. (tt, h.0), λ h. (h.1, tt))
all_more P (c ∷ bs) b =
    let rest = all_more P bs b in
    (λ h. let i = rest.0 h.1 in ((h.0, i.0), i.1), λ h. (h.0.0, rest.1 (h.0.1, h.1)))

-- segments end by one that isn't empty and fits, after full ones
segments_end : (k : ℕ) (bs : List (List ℕ)) (b : List ℕ) →
    AreSegments k (bs ++ (b ∷ [])) ↔ (AllByRecursion (λ c. length c ≡ k) bs × (1 ≤ length b) × (length b ≤ k))
segments_end k [] b = (λ h. (tt, h.0, h.1), λ h. (h.1, h.2))
segments_end k (c ∷ []) b = (λ h. ((h.0, tt), h.1.0, h.1.1), λ h. (h.0.0, (h.1, h.2)))
segments_end k (c ∷ d ∷ bs) b =
    let rest = segments_end k (d ∷ bs) b in
    (λ h. let i = rest.0 h.1 in ((h.0, i.0), i.1, i.2), λ h. (h.0.0, rest.1 (h.0.1, h.1, h.2)))

module _ {A : Type 0} (k : Segmentation A) (vs : List A) (c : Cuts) (w : A) (n : ℕ) (size : n ≡ length (k.bytes w)) (x : AreCut k vs c) where
  all : map k.bytes (vs ++ (w ∷ [])) ≡ map k.bytes vs ++ (k.bytes w ∷ [])
  all = map-append k.bytes vs (w ∷ [])

  is_full : IsTrue (c.full && nat_eq n k.full) ↔ AllByRecursion (λ b. length b ≡ k.full) (map k.bytes (vs ++ (w ∷ [])))
  is_full =
      let more = all_more (λ b. length b ≡ k.full) (map k.bytes vs) (k.bytes w) in
      let tests = both c.full (nat_eq n k.full) in (
        λ h. let i = tests.0 h in
            subst (AllByRecursion (λ b. length b ≡ k.full)) (sym all) (more.1 (x.full.0 i.0, sym size ∙ eqb-true n k.full i.1)),
        λ h. let i = more.0 (subst (AllByRecursion (λ b. length b ≡ k.full)) all h) in
            tests.1 (x.full.1 i.0, eq-eqb n k.full (size ∙ i.1)),
      )

  fits : IsTrue (nat_le 1 n && nat_le n k.full) ↔ ((1 ≤ length (k.bytes w)) × (length (k.bytes w) ≤ k.full))
  fits =
      let tests = both (nat_le 1 n) (nat_le n k.full) in (
        λ h. let i = tests.0 h in (omega (arith, size, leb-true 1 n i.0), omega (arith, size, leb-true n k.full i.1)),
        λ h. tests.1 (le-leb 1 n (omega (arith, size, h.0)), le-leb n k.full (omega (arith, size, h.1))),
      )

  is_even : IsTrue (c.some && (c.full && (nat_le 1 n && nat_le n k.full))) ↔ FallsInto Cer k.full (map k.bytes (vs ++ (w ∷ [])))
  is_even =
      let ends = segments_end k.full (map k.bytes vs) (k.bytes w) in
      let outer = both c.some (c.full && (nat_le 1 n && nat_le n k.full)) in
      let inner = both c.full (nat_le 1 n && nat_le n k.full) in
      let count : length (map k.bytes vs ++ (k.bytes w ∷ [])) ≡ length vs + 1 =
      length-append (map k.bytes vs) (k.bytes w ∷ []) ∙ ap (λ j. j + 1) (length-map vs k.bytes) in (
        λ h.
            let i = outer.0 h in
            let j = inner.0 i.1 in
            let l = fits.0 j.1 in
            let some = x.some.0 i.0 in
            subst (λ bs. AreSegments k.full bs × (2 ≤ length bs)) (sym all) (ends.1 (x.full.0 j.0, l.0, l.1), omega (arith, count, some)),
        λ h.
            let i = subst (λ bs. AreSegments k.full bs × (2 ≤ length bs)) all h in
            let j = ends.0 i.0 in
            let two = i.1 in
            outer.1 (x.some.1 (omega (arith, count, two)), inner.1 (x.full.1 j.0, fits.1 (j.1, j.2))),
      )

  -- the cut of segments and one more
  pub further_is_cut : AreCut k (vs ++ (w ∷ [])) (further_cut c k.full n)
  further_is_cut = record {
    some = (λ h. omega (arith, length-append vs (w ∷ [])), λ h. refl);
    full = is_full;
    even = is_even;
  }

-- a mode takes segments where it takes how they are cut
pub accepted_cut : {A : Type 0} (k : Segmentation A) (m : BERMode) (vs : List A) (c : Cuts) → AreCut k vs c → AcceptsCuts m c ↔ FallsInto m k.full (map k.bytes vs)
accepted_cut k Ber vs c x = (λ h. tt, λ h. tt)
accepted_cut k Der vs c x = (λ h. tt, λ h. tt)
accepted_cut k Cer vs c x = x.even
