-- The elements that a SET's callback is handed are the contents of that SET.
use Rattle.std.proofs.Common.{◌≡◌, ℕ, ◌+◌, ◌<◌, List, [], ◌∷◌, ◌++◌, length, refl, ap, ap₂, sym, subst, ◌∙◌, arith}
use Rattle.std.proofs.lemmas.List.{get_or-map, length-map}
use Rattle.std.specs.List.{concat}
use Rattle.std.specs.List.Sorted.{IsSorted, IsSortedByKey}
use Rattle.std.specs.Ordering.{is_lt}
use Rattle.std.specs.Prelude.{map}
use Rattle.std.specs.declared.cmp.Ordering.{Ordering}
use Rattle.yasna_base.specs.declared.mode.BERMode.{BERMode}
use Rattle.yasna_base.specs.declared.mode.BERMode.TheVariants.{Ber, Der, Cer}
use Rattle.yasna_base.specs.declared.tag.Tag.{Tag}
use Rattle.yasna_base.specs.Identifier.{AtEnd}
use Rattle.yasna_base.specs.Order.{tag_cmp}
use Rattle.yasna_base.specs.Pieces.{Each}
use Rattle.yasna_base.specs.Raw.{RawValue, IsRaw}
use Rattle.yasna_base.specs.Set.{AreInSetOrder, SetElements}
use Rattle.yasna_base.proofs.Pieces.{NoPrefix, no_prefix_at_end, pieces_once, each_same}
use Rattle.yasna_base.proofs.Raw.{raw_starts, raw_exact}
use Rattle.yasna_reader.specs.declared.set.SetElement.{SetElement}
use Rattle.yasna_reader.specs.SetList.{ElementsAreInSetOrder, IsListed, IsSetList, ListsAll}
use Rattle.yasna_reader.specs.SetLaws.{IsElementOf, IsSameElement, ListsAreOne, ListsAreSets, ListsSet, SetsAreListed, elements_bytes}
use Rattle.yasna_reader.proofs.SetListing.{listed_prefix_free}

-- items ascend by their keys exactly where the keys ascend
keys_ascend : {X K : Type 0} (key : X → K) (cmp : K → K → Ordering) (l : List X) → IsSortedByKey key cmp l → IsSorted cmp (map key l)
keys_ascend key cmp [] h k d a b = absurd (omega arith)
keys_ascend key cmp (x ∷ l) h k d a b =
    let n = length-map (x ∷ l) key in
    let p : k + 1 < length (x ∷ l) = omega (arith, n, b) in
    let q : k < length (x ∷ l) = omega (arith, p) in
    ap₂ (λ u v. is_lt (cmp u v)) (get_or-map key (x ∷ l) (k + 1) x d p) (get_or-map key (x ∷ l) k x d q) ∙ h k x a p

ascend_by_keys : {X K : Type 0} (key : X → K) (cmp : K → K → Ordering) (l : List X) → IsSorted cmp (map key l) → IsSortedByKey key cmp l
ascend_by_keys key cmp l h k d a b =
    let n = length-map l key in
    let q : k < length l = omega (arith, b) in
    ap₂ (λ u v. is_lt (cmp u v)) (sym (get_or-map key l (k + 1) d (key d) b)) (sym (get_or-map key l k d (key d) q)) ∙
    h k (key d) a (omega (arith, n, b))

-- the tags of elements are in a mode's order exactly where those of their values are
order_of_values : (m : BERMode) (l : List SetElement) (ts : List Tag) → map (λ (x : SetElement). x.tag) l ≡ ts → ElementsAreInSetOrder m l → AreInSetOrder m ts
order_of_values Ber l ts e h = tt
order_of_values Der l ts e h = subst (λ z. IsSorted tag_cmp z) e (keys_ascend (λ (x : SetElement). x.tag) tag_cmp l h)
order_of_values Cer l ts e h = subst (λ z. IsSorted tag_cmp z) e (keys_ascend (λ (x : SetElement). x.tag) tag_cmp l h)

order_of_elements : (m : BERMode) (l : List SetElement) (ts : List Tag) → map (λ (x : SetElement). x.tag) l ≡ ts → AreInSetOrder m ts →
    ElementsAreInSetOrder m l
order_of_elements Ber l ts e h = tt
order_of_elements Der l ts e h = ascend_by_keys (λ (x : SetElement). x.tag) tag_cmp l (subst (λ z. IsSorted tag_cmp z) (sym e) h)
order_of_elements Cer l ts e h = ascend_by_keys (λ (x : SetElement). x.tag) tag_cmp l (subst (λ z. IsSorted tag_cmp z) (sym e) h)

-- elements have the tags of their values
same_tags : (n : ℕ) (m : BERMode) (l : List SetElement) (vs : List RawValue) → Each (IsElementOf n m) l vs →
    map (λ (x : SetElement). x.tag) l ≡ map (λ (v : RawValue). v.tag) vs
same_tags n m [] [] h = refl
same_tags n m [] (v ∷ vs) h = absurd h
same_tags n m (x ∷ l) [] h = absurd h
same_tags n m (x ∷ l) (v ∷ vs) h = ap₂ (λ t ts. t ∷ ts) h.0.tag (same_tags n m l vs h.1)

-- elements are the pieces that represent their values
pieces_of : (n : ℕ) (m : BERMode) (l : List SetElement) (vs : List RawValue) → Each (IsElementOf n m) l vs →
    Each (IsRaw m n) vs (map (λ (x : SetElement). x.bytes.now) l) × Each (IsListed n m) l (map (λ (x : SetElement). x.bytes.now) l)
pieces_of n m [] [] h = (tt, tt)
pieces_of n m [] (v ∷ vs) h = absurd h
pieces_of n m (x ∷ l) [] h = absurd h
pieces_of n m (x ∷ l) (v ∷ vs) h =
    let w = pieces_of n m l vs h.1 in
    ((h.0.raw, w.0), (record { value = v; raw = h.0.raw; tag = h.0.tag; bytes = refl }, w.1))

-- the values of listed elements
record Values (n : ℕ) (m : BERMode) (l : List SetElement) (bs : List (List ℕ)) : Type 0 where
  values : List RawValue
  each : Each (IsElementOf n m) l values
  bytes : map (λ (x : SetElement). x.bytes.now) l ≡ bs

values_of : (n : ℕ) (m : BERMode) (l : List SetElement) (bs : List (List ℕ)) → Each (IsListed n m) l bs → Values n m l bs
values_of n m [] [] h = record { values = []; each = tt; bytes = refl }
values_of n m [] (b ∷ bs) h = absurd h
values_of n m (x ∷ l) [] h = absurd h
values_of n m (x ∷ l) (b ∷ bs) h =
    let w = values_of n m l bs h.1 in
    record {
      values = h.0.value ∷ w.values;
      each = (record { tag = h.0.tag; raw = subst (λ z. IsRaw m n h.0.value z) (sym h.0.bytes) h.0.raw }, w.each);
      bytes = ap₂ (λ c cs. c ∷ cs) h.0.bytes w.bytes;
    }

-- elements of values, whose tags are in order, are the contents of a SET
contents_of : (n : ℕ) (m : BERMode) (l : List SetElement) (vs : List RawValue) → Each (IsElementOf n m) l vs →
    AreInSetOrder m (map (λ (v : RawValue). v.tag) vs) →
    SetElements m n vs (elements_bytes l)
contents_of n m l vs h i = record {
  elements = record { pieces = map (λ (x : SetElement). x.bytes.now) l; each = (pieces_of n m l vs h).0; joined = refl };
  order = i;
}

list_is_set : (n : ℕ) (m : BERMode) (l : List SetElement) (c y : List ℕ) → IsSetList n m l c y → (vs : List RawValue) × ListsSet n m l vs c y
list_is_set n m l c y h =
    let p = h.all.listed in
    let w = values_of n m l p.elements.pieces p.elements.each in (
      w.values,
      record {
        each = w.each;
        contents = contents_of n m l w.values w.each (order_of_values m l (map (λ (v : RawValue). v.tag) w.values) (same_tags n m l w.values w.each) h.order);
        joined = p.joined ∙ ap (λ z. z ++ y) (p.elements.joined ∙ ap concat (sym w.bytes));
        ends = h.all.ends;
      },
    )

set_is_list : (n : ℕ) (m : BERMode) (l : List SetElement) (vs : List RawValue) (c y : List ℕ) → ListsSet n m l vs c y → IsSetList n m l c y
set_is_list n m l vs c y h = record {
  all = record {
    listed = record {
      prefix = elements_bytes l;
      elements = record { pieces = map (λ (x : SetElement). x.bytes.now) l; each = (pieces_of n m l vs h.each).1; joined = refl };
      joined = h.joined;
    };
    ends = h.ends;
  };
  order = order_of_elements m l (map (λ (v : RawValue). v.tag) vs) (same_tags n m l vs h.each) h.contents.order;
}

pub lists_are_sets : ListsAreSets
lists_are_sets = λ n m l c y. (list_is_set n m l c y, λ h. set_is_list n m l h.0 c y h.1)

-- the elements that represent values
record Elements (n : ℕ) (m : BERMode) (vs : List RawValue) (bs : List (List ℕ)) : Type 0 where
  elements : List SetElement
  each : Each (IsElementOf n m) elements vs
  bytes : map (λ (x : SetElement). x.bytes.now) elements ≡ bs

elements_of : (n : ℕ) (m : BERMode) (vs : List RawValue) (bs : List (List ℕ)) → Each (IsRaw m n) vs bs → Elements n m vs bs
elements_of n m [] [] h = record { elements = []; each = tt; bytes = refl }
elements_of n m [] (b ∷ bs) h = absurd h
elements_of n m (v ∷ vs) [] h = absurd h
elements_of n m (v ∷ vs) (b ∷ bs) h =
    let w = elements_of n m vs bs h.1 in
    let x : SetElement = record { tag = v.tag; bytes = record { ref_ptr = (0, 0); now = b }; end = 0 } in
    record {
      elements = x ∷ w.elements;
      each = (record { tag = refl; raw = h.0 }, w.each);
      bytes = ap (λ cs. b ∷ cs) w.bytes;
    }

pub sets_are_listed : SetsAreListed
sets_are_listed = λ n m vs b c y h e i.
    let w = elements_of n m vs h.elements.pieces h.elements.each in
    let f : elements_bytes w.elements ≡ b = ap concat w.bytes ∙ sym h.elements.joined in (
      w.elements,
      f,
      record {
        each = w.each;
        contents = contents_of n m w.elements vs w.each h.order;
        joined = e ∙ ap (λ z. z ++ y) (sym f);
        ends = i;
      },
    )

same_element : (n : ℕ) (m : BERMode) (x w : SetElement) (b : List ℕ) → IsListed n m x b → IsListed n m w b → IsSameElement x w
same_element n m x w b h k =
    let e = (raw_exact n n m h.value k.value b b [] [] h.raw k.raw refl).0 in
    record { tag = h.tag ∙ ap (λ (v : RawValue). v.tag) e ∙ sym k.tag; bytes = h.bytes ∙ sym k.bytes }

-- what is up to an end is listed once
pub all_one : (n : ℕ) (m : BERMode) (l k : List SetElement) (c y z : List ℕ) → ListsAll n m l c y → ListsAll n m k c z → Each IsSameElement l k × (y ≡ z)
all_one n m l k c y z h i =
    let p = h.listed in
    let q = i.listed in
    let no_more : (x : List ℕ) → AtEnd x → NoPrefix (IsListed n m) x = λ x e. no_prefix_at_end (λ v b r. raw_starts n m r.value b r.raw) x e in
    let w = pieces_once (listed_prefix_free n m) l k p.prefix q.prefix y z p.elements q.elements (no_more y h.ends) (no_more z i.ends) (sym p.joined ∙ q.joined) in (
      each_same (same_element n m) l k q.elements.pieces (subst (λ bs. Each (IsListed n m) l bs) w.0 p.elements.each) q.elements.each,
      w.1,
    )

pub lists_are_one : ListsAreOne
lists_are_one = λ n m l k c y z h i. all_one n m l k c y z h.all i.all

-- equal elements have equal tags
tags_of_same : (l k : List SetElement) → Each IsSameElement l k → map (λ (x : SetElement). x.tag) l ≡ map (λ (x : SetElement). x.tag) k
tags_of_same [] [] h = refl
tags_of_same [] (y ∷ k) h = absurd h
tags_of_same (x ∷ l) [] h = absurd h
tags_of_same (x ∷ l) (y ∷ k) h = ap₂ (λ t ts. t ∷ ts) h.0.tag (tags_of_same l k h.1)

pub order_of_same : (m : BERMode) (l k : List SetElement) → Each IsSameElement l k → ElementsAreInSetOrder m k → ElementsAreInSetOrder m l
order_of_same m l k h i =
    let ts = map (λ (x : SetElement). x.tag) k in
    order_of_elements m l ts (tags_of_same l k h) (order_of_values m k ts refl i)

-- equal elements have the same values
pub values_of_same : (n : ℕ) (m : BERMode) (l k : List SetElement) (vs : List RawValue) → Each IsSameElement l k → Each (IsElementOf n m) k vs →
    Each (IsElementOf n m) l vs
values_of_same n m [] [] vs h i = i
values_of_same n m [] (y ∷ k) vs h i = absurd h
values_of_same n m (x ∷ l) [] vs h i = absurd h
values_of_same n m (x ∷ l) (y ∷ k) [] h i = absurd i
values_of_same n m (x ∷ l) (y ∷ k) (v ∷ vs) h i = (
  record { tag = h.0.tag ∙ i.0.tag; raw = subst (λ b. IsRaw m n v b) (sym h.0.bytes) i.0.raw },
  values_of_same n m l k vs h.1 i.1,
)

-- equal elements have the same bytes
pub same_bytes : (l k : List SetElement) → Each IsSameElement l k → elements_bytes l ≡ elements_bytes k
same_bytes [] [] h = refl
same_bytes [] (y ∷ k) h = absurd h
same_bytes (x ∷ l) [] h = absurd h
same_bytes (x ∷ l) (y ∷ k) h = ap₂ (λ b c. b ++ c) h.0.bytes (same_bytes l k h.1)
