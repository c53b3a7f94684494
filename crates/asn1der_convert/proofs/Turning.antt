-- Two rows of elements that change places before they are woven.
use Rattle.std.proofs.Common.{◌≡◌, ℕ, ◌-◌, ◌≤◌, true, false, List, [], ◌∷◌, ◌++◌, length, take, drop, refl, sym, ap, ap₂, ◌∙◌, subst, arith}
use Rattle.std.specs.List.{AllByRecursion}
use Rattle.std.specs.List.Sorted.{ties}
use Rattle.std.specs.Ordering.{is_lt, ordering_reverse, ordering_then}
use Rattle.std.specs.declared.cmp.Ordering.{Ordering}
use Rattle.std.specs.declared.cmp.Ordering.TheVariants.{Less, Equal, Greater}
use Rattle.std.proofs.lemmas.List.{take_at, drop_at, length-take, length-drop}
use Rattle.std.proofs.lemmas.List.Sorted.{IsPermutation-append_comm}
use Rattle.yasna_base.specs.Identifier.{BeginsWithTag}
use Rattle.yasna_base.specs.Order.{octets_cmp, tag_cmp}
use Rattle.yasna_base.specs.Set.{SetPart}
use Rattle.yasna_base.specs.declared.tag.Tag.{Tag}
use Rattle.yasna_base.proofs.Identifier.{begins_once}
use Rattle.yasna_base.proofs.Order.{both_false, all_at, all_order_back, in_order_permuted}
use Rattle.asn1der_convert.specs.Rows.{IsElementPart, AreElements, Weaves}
use Rattle.asn1der_convert.specs.SetOrder.{sort_order, sorted_by}
use Rattle.asn1der_convert.specs.declared.sorting.SortKey.{SortKey}
use Rattle.asn1der_convert.specs.declared.sorting.SortKey.TheVariants.{ByTags, ByOctets}
use Rattle.asn1der_convert.proofs.Agreements.{element_tag, equal_same}
use Rattle.asn1der_convert.proofs.SetOrder.{sort_total, sort_rank}

-- elements with the same bytes are equal
same_bytes : (p q : SetPart) → IsElementPart p → IsElementPart q → p.bytes ≡ q.bytes → p ≡ q
same_bytes p q h k e =
    let tag = begins_once p.tag q.tag q.bytes (subst (BeginsWithTag p.tag) e (element_tag p h)) (element_tag q k) in
    ap₂ (λ (t : Tag) b. record { tag = t; bytes = b }) tag e

-- two orders, one after the other, tie where both do
second_ties : (a b : Ordering) → ordering_then a b ≡ Equal → b ≡ Equal
second_ties Less b e = absurd (cc)
second_ties Equal b e = e
second_ties Greater b e = absurd (cc)

-- elements that tie have equal octets
octets_tie : (key : SortKey) (p q : SetPart) → sort_order key p q ≡ Equal → octets_cmp p.bytes q.bytes ≡ Equal
octets_tie ByTags p q e = second_ties (tag_cmp p.tag q.tag) (octets_cmp p.bytes q.bytes) e
octets_tie ByOctets p q e = e

-- so they are equal
ties_same : (key : SortKey) (p q : SetPart) → IsElementPart p → IsElementPart q → ties (λ x y. is_lt (sort_order key x y)) p q ≡ true → p ≡ q
ties_same key p q h k e =
    let f = both_false (is_lt (sort_order key p q)) (is_lt (sort_order key q p)) e in
    go (sort_order key p q) refl f.0 f.1
  where
    go : (o : Ordering) → sort_order key p q ≡ o → is_lt (sort_order key p q) ≡ false → is_lt (sort_order key q p) ≡ false → p ≡ q
    go Less i f g = let j : true ≡ false = sym (ap is_lt i) ∙ f in absurd (cc)
    go Equal i f g = same_bytes p q h k (equal_same p.bytes q.bytes (octets_tie key p q i))
    go Greater i f g =
        let back : sort_order key q p ≡ Less = (sort_total key).antisymm q p ∙ ap ordering_reverse i in
        let j : true ≡ false = sym (ap is_lt back) ∙ g in
        absurd (cc)

all_both : (P : SetPart → Type 0) (ps qs : List SetPart) → AllByRecursion P ps → AllByRecursion P qs → AllByRecursion P (ps ++ qs)
all_both P [] qs a b = b
all_both P (p ∷ ps) qs a b = (a.0, all_both P ps qs a.1 b)

-- the order doesn't depend on which row was first
turned_order : (key : SortKey) (us vs : List SetPart) → AllByRecursion IsElementPart us → AllByRecursion IsElementPart vs → sorted_by key (vs ++ us) ≡ sorted_by key (us ++ vs)
turned_order key us vs a b =
    let all = all_both IsElementPart vs us b a in
    in_order_permuted (sort_order key) (sort_rank key) (vs ++ us) (us ++ vs) (IsPermutation-append_comm vs us) (λ x y i j e.
    ties_same key x y (all_at IsElementPart (vs ++ us) all x i) (all_at IsElementPart (vs ++ us) all y j) e)

-- the rows changed places, and were woven
pub turned_weaves : (key : SortKey) (e r new : List ℕ) (k rest : ℕ) → k ≤ length e → r ≡ drop k e ++ take k e → rest ≡ length e - k → Weaves key (take rest r) r new →
    Weaves key (take k e) e new
turned_weaves key e r new k rest within turned count w us vs a b =
    let size : length (drop k e) ≡ rest = omega (arith, length-drop k e, count) in
    let short : length (take k e) ≡ k = omega (arith, length-take k e, within) in
    let first : take rest r ≡ drop k e = ap (take rest) turned ∙ take_at (drop k e) (take k e) rest size in
    let second : drop (length (take rest r)) r ≡ take k e =
    ap (λ z. drop (length z) r) first ∙ ap (drop (length (drop k e))) turned ∙ drop_at (drop k e) (take k e) (length (drop k e)) refl in
    let after = subst (λ i. AreElements (sorted_by key vs) (drop i e)) short b in
    let all = w vs us (subst (AreElements (sorted_by key vs)) (sym first) after) (subst (AreElements (sorted_by key us)) (sym second) a) in
    subst (λ (qs : List SetPart). AreElements qs new)
    (turned_order key us vs (all_order_back (sort_order key) (sort_rank key) IsElementPart us a.each) (all_order_back (sort_order key) (sort_rank key) IsElementPart vs b.each))
    all
