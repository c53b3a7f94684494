-- What a binary search finds in a table that is sorted.
use Rattle.std.proofs.Common.{◌≡◌, ◌∙◌, ◌+◌, ◌-◌, ◌<◌, ◌≤◌, ℕ, zero, suc, List, length, refl, ap, sym, subst, arith, inl, inr, ⊎_elim, true≢false, Bool, true, false}
use Rattle.std.specs.Prelude.{◌⊎◌, slice_index_or, IsTrue, []}
use Rattle.std.specs.Bool.{MatchBool}
use Rattle.std.specs.List.{AllAdjacentBelow}
use Rattle.std.specs.List.Sorted.{IsNonDecreasingBy, IsPartitionPoint}
use Rattle.std.specs.Ordering.{is_lt, ordering_index}
use Rattle.std.specs.declared.cmp.Ordering.{Ordering}
use Rattle.std.specs.declared.cmp.Ordering.TheVariants.{Less, Equal, Greater}
use Rattle.std.proofs.lemmas.Cmp.{nat_list_cmp_total}
use Rattle.std.specs.Cmp.{tied_itself, alike_right}
use Rattle.yasna_base.specs.Order.{octets_cmp}
use Rattle.asn1show_names.specs.Names.{Row, HasName, IsSorted}

-- ---- the order of a list of octets with two others, of which the first is less

rises_by : (a b x : List ℕ) (r s : Ordering) → octets_cmp a b ≡ Less → octets_cmp a x ≡ r → octets_cmp b x ≡ s → ordering_index r ≤ ordering_index s
rises_by a b x Less s h p q = omega arith
rises_by a b x Equal Less h p q =
    let e : octets_cmp a x ≡ Less = nat_list_cmp_total.trans a b x h q in
    let n : 1 ≡ 0 = ap ordering_index (sym p ∙ e) in absurd (omega (arith, n))
rises_by a b x Equal Equal h p q = omega arith
rises_by a b x Equal Greater h p q = omega arith
rises_by a b x Greater Less h p q =
    let e : octets_cmp a x ≡ Less = nat_list_cmp_total.trans a b x h q in
    let n : 2 ≡ 0 = ap ordering_index (sym p ∙ e) in absurd (omega (arith, n))
rises_by a b x Greater Equal h p q =
    let e : octets_cmp a x ≡ Less = sym (alike_right nat_list_cmp_total b x a q) ∙ h in
    let n : 2 ≡ 0 = ap ordering_index (sym p ∙ e) in absurd (omega (arith, n))
rises_by a b x Greater Greater h p q = omega arith

index_of : List ℕ → Row → ℕ
index_of x row = ordering_index (octets_cmp row.0.now x)

order_of : (i j : ℕ) → i ≤ j → (i < j) ⊎ (i ≡ j)
order_of zero zero le = inr refl
order_of zero (suc j) le = inl (omega arith)
order_of (suc i) zero le = absurd (omega (arith, le))
order_of (suc i) (suc j) le = ⊎_elim (λ l. inl (omega (arith, l))) (λ e. inr (ap suc e)) (order_of i j (omega (arith, le)))

-- the order with an identifier rises along rows that are sorted
pub rises : (rows : List Row) (x : List ℕ) → IsSorted rows → IsNonDecreasingBy (λ (row : Row). ordering_index (octets_cmp row.0.now x)) rows
rises rows x up i j d le lt =
    ⊎_elim
    (λ l. rises_by (slice_index_or rows i d).0.now (slice_index_or rows j d).0.now x _ _ (up i j d l lt) refl refl)
    (λ e. subst (λ k. ordering_index (octets_cmp (slice_index_or rows i d).0.now x) ≤ ordering_index (octets_cmp (slice_index_or rows k d).0.now x)) e (omega arith))
    (order_of i j le)

-- ---- rows around the place where an identifier would be don't have it

apart : (r : Ordering) → r ≡ Equal → (r ≡ Less) ⊎ (r ≡ Greater) → ⊥
apart r e (inl h) = let n : 1 ≡ 0 = ap ordering_index (sym e ∙ h) in omega (arith, n)
apart r e (inr h) = let n : 1 ≡ 2 = ap ordering_index (sym e ∙ h) in omega (arith, n)

side : (k i n : ℕ) → k < n → (k < i) ⊎ ((i ≤ k) × (k < n))
side k zero n lt = inr (omega arith, lt)
side zero (suc i) n lt = inl (omega arith)
side (suc k) (suc i) zero lt = absurd (omega (arith, lt))
side (suc k) (suc i) (suc n) lt = ⊎_elim (λ l. inl (omega (arith, l))) (λ r. let a = r.0 in inr (omega (arith, a), lt)) (side k i n (omega (arith, lt)))

pub unnamed : (rows : List Row) (x name : List ℕ) (i : ℕ) (d : Row) →
    IsPartitionPoint (λ (row : Row). octets_cmp row.0.now x ≡ Less) (λ (row : Row). octets_cmp row.0.now x ≡ Greater) rows i → HasName rows x name → ⊥
unnamed rows x name i d parts named =
    let k = named.0 in
    let same : (slice_index_or rows k d).0.now ≡ x = (named.2 d).0 in
    let equal : octets_cmp (slice_index_or rows k d).0.now x ≡ Equal = ap (λ z. octets_cmp z x) same ∙ tied_itself nat_list_cmp_total x in
    apart _ equal (⊎_elim (λ l. inl (parts.0 k d (omega arith) l)) (λ r. inr (parts.1 k d r.0 r.1)) (side k i (length rows) named.1))

-- ---- rows that are in order two by two

is_less : (o : Ordering) → is_lt o ≡ true → o ≡ Less
is_less Less e = refl
is_less Equal e = absurd (true≢false (sym e))
is_less Greater e = absurd (true≢false (sym e))

far : (rows : List Row) → ((k : ℕ) (d : Row) → k + 1 < length rows → octets_cmp (slice_index_or rows k d).0.now (slice_index_or rows (k + 1) d).0.now ≡ Less) →
    (n i : ℕ) (d : Row) → i + 1 + n < length rows → octets_cmp (slice_index_or rows i d).0.now (slice_index_or rows (i + 1 + n) d).0.now ≡ Less
far rows near zero i d lt = let e : i + 1 + 0 ≡ i + 1 = omega arith in
    subst (λ k. octets_cmp (slice_index_or rows i d).0.now (slice_index_or rows k d).0.now ≡ Less) (sym e) (near i d (subst (λ k. k < length rows) e lt))
far rows near (suc n) i d lt =
    let e : i + 1 + n + 1 ≡ i + 1 + suc n = omega arith in
    nat_list_cmp_total.trans _ (slice_index_or rows (i + 1 + n) d).0.now _ (far rows near n i d (omega (arith, lt)))
    (subst (λ k. octets_cmp (slice_index_or rows (i + 1 + n) d).0.now (slice_index_or rows k d).0.now ≡ Less) e (near (i + 1 + n) d (subst (λ k. k < length rows) (sym e) lt)))

pub sorted_two_by_two : (rows : List Row) → ((k : ℕ) (d : Row) → k + 1 < length rows → is_lt (octets_cmp (slice_index_or rows k d).0.now (slice_index_or rows (k + 1) d).0.now) ≡ true) →
    IsSorted rows
sorted_two_by_two rows near i j d lt in_rows =
    let e : i + 1 + (j - (i + 1)) ≡ j = omega (arith, lt) in
    subst (λ k. octets_cmp (slice_index_or rows i d).0.now (slice_index_or rows k d).0.now ≡ Less) e
    (far rows (λ k d l. is_less _ (near k d l)) (j - (i + 1)) i d (subst (λ k. k < length rows) (sym e) in_rows))

-- rows are sorted exactly if each is before the next
abbrev pub IsBefore : Bool → Row → Row → Type 0
IsBefore is_so row next = is_so ≡ is_lt (octets_cmp row.0.now next.0.now)

pub decides : (rows : List Row) (r : Bool) →
    MatchBool r (AllAdjacentBelow (IsBefore true) rows (length rows))
    ((k : ℕ) × (k + 1 < length rows) × ((d : Row) → IsBefore false (slice_index_or rows k d) (slice_index_or rows (k + 1) d))) →
    (IsTrue r → IsSorted rows) × (IsSorted rows → IsTrue r)
decides rows true h = (λ u. sorted_two_by_two rows (λ k d l. sym (h k d l)), λ s. refl)
decides rows false h = (
  λ u. absurd (true≢false (sym u)),
  λ s.
      let d : Row = (record { ref_ptr = (0, 0); now = [] }, record { ref_ptr = (0, 0); now = [] }) in
      absurd (true≢false (sym (h.2 d ∙ ap is_lt (s h.0 (h.0 + 1) d (omega arith) h.1)))),
)
