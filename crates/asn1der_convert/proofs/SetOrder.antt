-- The order of the elements of a SET or a SET OF.
use Rattle.std.proofs.Common.{◌≡◌, ◌⊎◌, inl, inr, ℕ, Bool, true, false, List, [], ◌∷◌, length, map, refl, sym, ap, ap₂, ◌∙◌, subst, arith}
use Rattle.std.specs.Cmp.{nat_cmp_is, IsStrictWeakOrder, IsTotalOrder}
use Rattle.std.specs.List.{AllByRecursion}
use Rattle.std.specs.Ordering.{is_lt, ordering_then}
use Rattle.std.specs.declared.cmp.Ordering.TheVariants.{Equal}
use Rattle.std.proofs.lemmas.Cmp.{nat_cmp_total, nat_list_cmp_total, on_total, then_total}
use Rattle.std.proofs.lemmas.List.Sorted.{ranks_by}
use Rattle.yasna_base.specs.Identifier.{class_number}
use Rattle.yasna_base.specs.Order.{octets_cmp, tag_cmp, in_order}
use Rattle.yasna_base.specs.Set.{SetPart, parts_bytes, set_tag}
use Rattle.yasna_base.specs.declared.tag.Tag.{Tag}
use Rattle.yasna_base.proofs.Order.{Rises, rises_order, in_order_rising, in_order_map, all_order}
use Rattle.asn1der_convert.specs.Rows.{part_tags, AreElements}
use Rattle.asn1der_convert.specs.Parts.{PutsInOrder, ArePutInOrder, sorted, as_they_were}
use Rattle.asn1der_convert.specs.SetOrder.{keyed_part, keyed_parts, set_order, IsSwapped, InOrder, by_octets, sort_order, IsOrderKnown}
use Rattle.asn1der_convert.specs.Tree.{HaveOneTag}
use Rattle.asn1der_convert.specs.declared.set_order.SetOrder.{SetOrder}
use Rattle.asn1der_convert.specs.declared.set_order.SetOrder.TheVariants.{Tags, Octets}
use Rattle.asn1der_convert.specs.declared.sorting.SortKey.{SortKey}
use Rattle.asn1der_convert.specs.declared.sorting.SortKey.TheVariants.{ByTags, ByOctets}

-- octets order parts
pub octets_rank : IsStrictWeakOrder (λ (p q : SetPart). is_lt (set_order Octets p q))
octets_rank = ranks_by nat_list_cmp_total (λ (p : SetPart). p.bytes)

-- so do tags
pub tag_total : IsTotalOrder tag_cmp
tag_total = then_total (on_total (λ (t : Tag). class_number t.tag_class) nat_cmp_total) (on_total (λ (t : Tag). t.tag_number) nat_cmp_total)

-- and each key by which elements are sorted
pub sort_total : (key : SortKey) → IsTotalOrder (sort_order key)
sort_total ByTags = then_total (on_total (λ (p : SetPart). p.tag) tag_total) (on_total (λ (p : SetPart). p.bytes) nat_list_cmp_total)
sort_total ByOctets = on_total (λ (p : SetPart). p.bytes) nat_list_cmp_total

pub sort_rank : (key : SortKey) → IsStrictWeakOrder (λ (p q : SetPart). is_lt (sort_order key p q))
sort_rank key = ranks_by (sort_total key) (λ (p : SetPart). p)

abbrev part : Tag → List ℕ → SetPart
part t b = record { tag = t; bytes = b }

-- items with equal tags and encodings are equal parts
pub same_parts : {A B : Type 0} (f : A → Tag) (g : A → List ℕ) (h : B → Tag) (k : B → List ℕ) (xs : List A) (ys : List B) → map f xs ≡ map h ys →
    map g xs ≡ map k ys → keyed_parts f g xs ≡ keyed_parts h k ys
same_parts f g h k [] [] e i = refl
same_parts f g h k [] (y ∷ ys) e i = absurd (omega (arith, ap length e))
same_parts f g h k (x ∷ xs) [] e i = absurd (omega (arith, ap length e))
same_parts f g h k (x ∷ xs) (y ∷ ys) e i =
    let tag : f x ≡ h y = cc in
    let tags : map f xs ≡ map h ys = cc in
    let bytes : g x ≡ k y = cc in
    let all_bytes : map g xs ≡ map k ys = cc in
    ap₂ (λ z zs. z ∷ zs) (ap₂ part tag bytes) (same_parts f g h k xs ys tags all_bytes)

-- parts whose tags and bytes are those of items are the items' parts
pub labels_of : {B : Type 0} (h : B → Tag) (k : B → List ℕ) (ps : List SetPart) (ys : List B) → part_tags ps ≡ map h ys → parts_bytes ps ≡ map k ys →
    ps ≡ keyed_parts h k ys
labels_of h k [] [] e i = refl
labels_of h k [] (y ∷ ys) e i = absurd (omega (arith, ap length e))
labels_of h k (p ∷ ps) [] e i = absurd (omega (arith, ap length e))
labels_of h k (p ∷ ps) (y ∷ ys) e i =
    let tag : p.tag ≡ h y = cc in
    let tags : part_tags ps ≡ map h ys = cc in
    let bytes : p.bytes ≡ k y = cc in
    let all_bytes : parts_bytes ps ≡ map k ys = cc in
    ap₂ (λ z zs. z ∷ zs) (ap₂ part tag bytes) (labels_of h k ps ys tags all_bytes)

-- the bytes of items
pub parts_of_bytes : {A : Type 0} (f : A → Tag) (g : A → List ℕ) (xs : List A) → parts_bytes (keyed_parts f g xs) ≡ map g xs
parts_of_bytes f g [] = refl
parts_of_bytes f g (x ∷ xs) = ap (λ zs. g x ∷ zs) (parts_of_bytes f g xs)

-- parts put in the order of a SET OF are their bytes in order
pub by_octets_bytes : (ps : List SetPart) → parts_bytes (by_octets ps) ≡ in_order octets_cmp (parts_bytes ps)
by_octets_bytes ps = in_order_map (λ (p : SetPart). p.bytes) octets_cmp ps

-- items put in the order of their encodings are parts in the order of a SET OF
pub by_octets_of : {A : Type 0} (f : A → Tag) (g : A → List ℕ) (vs : List A) →
    keyed_parts f g (in_order (λ v w. octets_cmp (g v) (g w)) vs) ≡ by_octets (keyed_parts f g vs)
by_octets_of f g vs = in_order_map (keyed_part f g) (set_order Octets) vs

rising_in_order : (ps : List SetPart) → Rises (λ p q. is_lt (set_order Octets p q)) ps → InOrder Octets ps
rising_in_order [] r = tt
rising_in_order (p ∷ []) r = (λ i. i, tt)
rising_in_order (p ∷ q ∷ qs) r = (λ (i : is_lt (octets_cmp q.bytes p.bytes) ≡ true). let e : is_lt (octets_cmp q.bytes p.bytes) ≡ false = r.0.0 in absurd (cc), rising_in_order (q ∷ qs) r.1)

-- parts that were put in the order of a SET OF are in it
pub by_octets_in_order : (ps : List SetPart) → InOrder Octets (by_octets ps)
by_octets_in_order ps = rising_in_order (by_octets ps) (rises_order (set_order Octets) octets_rank ps)

-- putting them in that order again changes nothing
pub by_octets_again : (ps : List SetPart) → by_octets (by_octets ps) ≡ by_octets ps
by_octets_again ps = in_order_rising (set_order Octets) octets_rank (by_octets ps) (rises_order (set_order Octets) octets_rank ps)

-- items put in the order of their encodings have a known order where they had one before
pub known_again : {A : Type 0} (f : A → Tag) (g : A → List ℕ) (vs : List A) → IsOrderKnown (keyed_parts f g vs) →
    IsOrderKnown (keyed_parts f g (in_order (λ v w. octets_cmp (g v) (g w)) vs))
known_again f g vs known =
    let once = by_octets_of f g vs in
    subst (InOrder Tags) (sym (ap by_octets once ∙ by_octets_again (keyed_parts f g vs))) known

tag_self : (u : Tag) → is_lt (tag_cmp u u) ≡ false
tag_self u =
    let c = class_number u.tag_class in
    let k = u.tag_number in
    ap₂ (λ a b. is_lt (ordering_then a b)) (sym (nat_cmp_is c c Equal refl)) (sym (nat_cmp_is k k Equal refl))

one_tag_in_order : (u : Tag) (ps : List SetPart) → AllByRecursion (λ (p : SetPart). p.tag ≡ u) ps → InOrder Tags ps
one_tag_in_order u [] a = tt
one_tag_in_order u (p ∷ []) a = (λ i. i, tt)
one_tag_in_order u (p ∷ q ∷ qs) a =
    let same : is_lt (tag_cmp q.tag p.tag) ≡ false = ap₂ (λ t s. is_lt (tag_cmp t s)) a.1.0 a.0 ∙ tag_self u in
    (λ (i : is_lt (tag_cmp q.tag p.tag) ≡ true). absurd (cc), one_tag_in_order u (q ∷ qs) a.1)

-- what holds of the tags of elements
tags_hold : (P : Tag → Type 0) (ps : List SetPart) → AllByRecursion P (part_tags ps) → AllByRecursion (λ (p : SetPart). P p.tag) ps
tags_hold P [] a = tt
tags_hold P (p ∷ ps) a = (a.0, tags_hold P ps a.1)

-- the order of elements with one tag is known
pub one_tag_known : (ps : List SetPart) → HaveOneTag (part_tags ps) → IsOrderKnown ps
one_tag_known ps h =
    one_tag_in_order h.0 (by_octets ps) (all_order (set_order Octets) octets_rank (λ (p : SetPart). p.tag ≡ h.0) ps (tags_hold (λ t. t ≡ h.0) ps h.1))

-- elements that are in an order are each not below those before them
pub in_order_rises : (o : SetOrder) → IsStrictWeakOrder (λ (p q : SetPart). is_lt (set_order o p q)) → (ps : List SetPart) → InOrder o ps →
    Rises (λ p q. is_lt (set_order o p q)) ps
in_order_rises o rank [] i = tt
in_order_rises o rank (p ∷ ps) i =
    let rest = in_order_rises o rank ps i.1 in
    (after ps i.0 rest, rest)
  where
    first_bounds : (q : SetPart) (qs : List SetPart) → is_lt (set_order o q p) ≡ false → AllByRecursion (λ r. is_lt (set_order o r q) ≡ false) qs →
        AllByRecursion (λ r. is_lt (set_order o r p) ≡ false) qs
    first_bounds q [] e a = tt
    first_bounds q (r ∷ qs) e a = (rank.chain r q p a.0 e, first_bounds q qs e a.1)

    not_below : (b : Bool) → (b ≡ true → ⊥) → b ≡ false
    not_below true f = absurd (f refl)
    not_below false f = refl

    after : (qs : List SetPart) → (IsSwapped o p qs → ⊥) → Rises (λ p q. is_lt (set_order o p q)) qs → AllByRecursion (λ r. is_lt (set_order o r p) ≡ false) qs
    after [] f r = tt
    after (q ∷ qs) f r =
        let e = not_below (is_lt (set_order o q p)) f in
        (e, first_bounds q qs e r.0)

-- elements that are in the order of a SET OF stay so when they are put in it
pub in_order_already : (ps : List SetPart) → InOrder Octets ps → by_octets ps ≡ ps
in_order_already ps i = in_order_rising (set_order Octets) octets_rank ps (in_order_rises Octets octets_rank ps i)

-- whether elements are in an order is decided
either_way : (b : Bool) → (b ≡ true) ⊎ (b ≡ true → ⊥)
either_way true = inl refl
either_way false = inr (λ (e : false ≡ true). absurd (cc))

decides_swapped : (o : SetOrder) (p : SetPart) (ps : List SetPart) → IsSwapped o p ps ⊎ (IsSwapped o p ps → ⊥)
decides_swapped o p [] = inr (λ i. i)
decides_swapped o p (q ∷ qs) = either_way (is_lt (set_order o q p))

pub decides_order : (o : SetOrder) (ps : List SetPart) → InOrder o ps ⊎ (InOrder o ps → ⊥)
decides_order o [] = inl tt
decides_order o (p ∷ ps) = both (decides_swapped o p ps) (decides_order o ps)
  where
    both : IsSwapped o p ps ⊎ (IsSwapped o p ps → ⊥) → InOrder o ps ⊎ (InOrder o ps → ⊥) → InOrder o (p ∷ ps) ⊎ (InOrder o (p ∷ ps) → ⊥)
    both (inl s) d = inr (λ i. i.0 s)
    both (inr f) (inl i) = inl (f, i)
    both (inr f) (inr g) = inr (λ i. g i.1)

-- elements of no SET stayed as they were
pub put_nothing : (t : Tag) (s : List ℕ) → (t ≡ set_tag → ⊥) → PutsInOrder t s s
put_nothing t s other ps a = (ps, as_they_were (λ i known. other i) refl, a)

-- so did those of a SET that are in the order of a SET OF
pub put_already : (t : Tag) (s : List ℕ) → t ≡ set_tag → ((ps : List SetPart) → AreElements ps s → InOrder Octets ps) → PutsInOrder t s s
put_already t s i f ps a = (ps, go (decides_order Tags (by_octets ps)), a)
  where
    go : InOrder Tags (by_octets ps) ⊎ (InOrder Tags (by_octets ps) → ⊥) → ArePutInOrder t ps ps
    go (inl known) = sorted i known (sym (in_order_already ps (f ps a)))
    go (inr unknown) = as_they_were (λ e known. unknown known) refl

-- elements with one tag were put in the order of a SET OF
pub put_one_tag : (t : Tag) (s s' : List ℕ) → t ≡ set_tag → ((ps : List SetPart) → AreElements ps s → HaveOneTag (part_tags ps)) →
    ((ps : List SetPart) → AreElements ps s → AreElements (by_octets ps) s') → PutsInOrder t s s'
put_one_tag t s s' i one f ps a = (by_octets ps, sorted i (one_tag_known ps (one ps a)) refl, f ps a)
