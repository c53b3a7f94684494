-- Elements in memory, found one after the other.
use Rattle.std.proofs.Common.{◌≡◌, ◌↔◌, IsTrue, ℕ, ◌+◌, ◌<◌, Bool, true, false, List, [], ◌∷◌, ◌++◌, length, refl, sym, ap, ap₂, ◌∙◌, subst, append-nil, append_assoc, length-append, arith}
use Rattle.std.specs.List.{AllByRecursion, concat}
use Rattle.std.specs.Ordering.{is_lt}
use Rattle.yasna_base.specs.Bits.{bits_tag}
use Rattle.yasna_base.specs.Order.{tag_cmp}
use Rattle.yasna_base.specs.Raw.{RawValue, IsRaw}
use Rattle.yasna_base.specs.Set.{SetPart, parts_bytes}
use Rattle.yasna_base.specs.declared.mode.BERMode.{BERMode}
use Rattle.yasna_base.specs.declared.mode.BERMode.TheVariants.{Ber}
use Rattle.yasna_base.specs.declared.tag.Tag.{Tag}
use Rattle.yasna_base.proofs.Identifier.{begins_some}
use Rattle.yasna_base.proofs.Lists.{prefixes_same}
use Rattle.yasna_base.proofs.Raw.{raw_starts, raw_exact}
use Rattle.yasna_bytes.specs.Walk.{element_of, TakesRaw, RejectsRaw}
use Rattle.yasna_bytes.specs.declared.bytes.header.Rejection.{Rejection}
use Rattle.yasna_bytes.specs.declared.bytes.walk.RawElement.{RawElement}
use Rattle.asn1der_convert.specs.Rows.{IsElementPart, AreElements, part_of, part_tags, TakesFirst, NoFirst}
use Rattle.asn1der_convert.specs.SetOrder.{set_order, InOrder, AscendByTags}
use Rattle.asn1der_convert.specs.Tree.{HaveOneTag}
use Rattle.asn1der_convert.specs.declared.set_order.SetOrder.{SetOrder}

abbrev part : Tag → List ℕ → SetPart
part t b = record { tag = t; bytes = b }

-- a raw element that was taken is the first
pub first_taken : (n : ℕ) (s : List ℕ) (x : RawElement) (r : List ℕ) → n ≡ 101 → TakesRaw Ber n s x r → TakesFirst s x r
first_taken n s x r e t = record {
  some = let y = raw_starts n Ber (element_of x) x.bytes.now t.raw in begins_some y.tag x.bytes.now y.begins;
  joined = t.joined;
  only = λ p q h j.
      let same = raw_exact n 101 Ber (element_of x) h.value x.bytes.now p.bytes r q t.raw h.raw (sym t.joined ∙ j) in
      let rest = prefixes_same p.bytes x.bytes.now q r (ap length (sym same.1)) (sym j ∙ t.joined) in
      (ap₂ part (h.tag ∙ sym (ap (λ (v : RawValue). v.tag) same.0)) (sym same.1), rest.1);
}

-- no raw element was taken
pub none_taken : (m : BERMode) (n : ℕ) (s t : List ℕ) (e : Rejection) → m ≡ Ber → n ≡ 101 → s ≡ t → RejectsRaw m n s e → NoFirst t
none_taken m n s t e f g same x p q h j =
    x.none (
      h.value,
      q,
      record {
        prefix = p.bytes;
        joined = same ∙ j;
        member = subst (λ k. IsRaw m k h.value p.bytes) (sym g) (subst (λ (z : BERMode). IsRaw z 101 h.value p.bytes) (sym f) h.raw);
      },
    )

-- fewer bytes are left after the first element
pub first_shorter : (s : List ℕ) (x : RawElement) (r : List ℕ) → TakesFirst s x r → length r < length s
first_shorter s x r t = omega (arith, t.some, ap length t.joined, length-append x.bytes.now r)

-- elements of which the first was taken
pub record FirstPart (ps : List SetPart) (x : RawElement) (r : List ℕ) : Type 0 where
  pub others : List SetPart
  pub is : ps ≡ part_of x ∷ others
  pub own : IsElementPart (part_of x)
  pub elements : AreElements others r

pub first_part : (ps : List SetPart) (s : List ℕ) (x : RawElement) (r : List ℕ) → AreElements ps s → TakesFirst s x r → FirstPart ps x r
first_part [] s x r a t = absurd (omega (arith, t.some, ap length (sym t.joined ∙ a.joined), length-append x.bytes.now r))
first_part (p ∷ ps) s x r a t =
    let o = t.only p (concat (parts_bytes ps)) a.each.0 a.joined in
    record {
      others = ps;
      is = ap (λ q. q ∷ ps) o.0;
      own = subst IsElementPart o.0 a.each.0;
      elements = record { each = a.each.1; joined = sym o.1 };
    }

pub no_part : (ps : List SetPart) (s : List ℕ) → AreElements ps s → NoFirst s → ps ≡ []
no_part [] s a n = refl
no_part (p ∷ ps) s a n = absurd (n p (concat (parts_bytes ps)) a.each.0 a.joined)

-- what P says of the elements s it says of those that are left
pub record IsLeft (P : List SetPart → Type 0) (ps : List SetPart) (l : List ℕ) : Type 0 where
  pub others : List SetPart
  pub elements : AreElements others l
  pub same : P ps ↔ P others

abbrev pub AllTagged : Tag → List SetPart → Type 0
AllTagged t ps = AllByRecursion (λ (p : SetPart). p.tag ≡ t) ps

pub tags_begin : (t : Tag) (ps : List SetPart) (s : List ℕ) → AreElements ps s → IsLeft (AllTagged t) ps s
tags_begin t ps s a = record { others = ps; elements = a; same = (λ h. h, λ h. h) }

pub tags_next : (t : Tag) (ps : List SetPart) (l : List ℕ) (x : RawElement) (r : List ℕ) → IsLeft (AllTagged t) ps l → TakesFirst l x r → x.tag ≡ t →
    IsLeft (AllTagged t) ps r
tags_next t ps l x r i f e =
    let h = first_part i.others l x r i.elements f in
    let same = subst (λ (qs : List SetPart). AllTagged t ps ↔ AllTagged t qs) h.is i.same in
    record { others = h.others; elements = h.elements; same = (λ a. (same.0 a).1, λ a. same.1 (e, a)) }

pub tags_all : (t : Tag) (ps : List SetPart) (l : List ℕ) (b : Bool) → IsLeft (AllTagged t) ps l → NoFirst l → IsTrue b → IsTrue b ↔ AllTagged t ps
tags_all t ps l b i n holds = (λ y. i.same.1 (subst (AllTagged t) (sym (no_part i.others l i.elements n)) tt), λ a. holds)

pub tags_other : (t : Tag) (ps : List SetPart) (l : List ℕ) (x : RawElement) (r : List ℕ) (b : Bool) → IsLeft (AllTagged t) ps l → TakesFirst l x r → (x.tag ≡ t → ⊥) →
    (IsTrue b → ⊥) → IsTrue b ↔ AllTagged t ps
tags_other t ps l x r b i f other fails =
    let h = first_part i.others l x r i.elements f in
    (λ y. absurd (fails y), λ a. absurd (other (subst (AllTagged t) h.is (i.same.0 a)).0))

-- all elements have one tag, if those after the first have its tag
all_one_tag : (t : Tag) (ps : List SetPart) → AllTagged t ps → AllByRecursion (λ u. u ≡ t) (part_tags ps)
all_one_tag t [] h = tt
all_one_tag t (p ∷ ps) h = (h.0, all_one_tag t ps h.1)

one_tag_all : (t : Tag) (ps : List SetPart) → AllByRecursion (λ u. u ≡ t) (part_tags ps) → AllTagged t ps
one_tag_all t [] h = tt
one_tag_all t (p ∷ ps) h = (h.0, one_tag_all t ps h.1)

pub one_tag_none : (ps : List SetPart) (s : List ℕ) (b : Bool) → AreElements ps s → NoFirst s → IsTrue b → IsTrue b ↔ HaveOneTag (part_tags ps)
one_tag_none ps s b a n holds =
    (λ y. subst (λ (qs : List SetPart). HaveOneTag (part_tags qs)) (sym (no_part ps s a n)) (bits_tag, tt), λ h. holds)

pub one_tag_first : (ps : List SetPart) (s : List ℕ) (x : RawElement) (r : List ℕ) (b : Bool) → AreElements ps s → TakesFirst s x r →
    ((qs : List SetPart) → AreElements qs r → IsTrue b ↔ AllTagged x.tag qs) → IsTrue b ↔ HaveOneTag (part_tags ps)
one_tag_first ps s x r b a f g =
    let h = first_part ps s x r a f in
    let same = g h.others h.elements in
    subst (λ (qs : List SetPart). IsTrue b ↔ HaveOneTag (part_tags qs)) (sym h.is) (
      (λ y. (x.tag, (refl, all_one_tag x.tag h.others (same.0 y)))),
      (λ one. same.1 (subst (λ u. AllTagged u h.others) (sym one.1.0) (one_tag_all one.0 h.others one.1.1))),
    )

-- how many elements are left, where some were counted
pub record Counted (ps : List SetPart) (l : List ℕ) (count : ℕ) : Type 0 where
  pub others : List SetPart
  pub elements : AreElements others l
  pub total : length ps ≡ count + length others

pub counted_none : (ps : List SetPart) (s : List ℕ) → AreElements ps s → Counted ps s 0
counted_none ps s a = record { others = ps; elements = a; total = omega arith }

pub counted_next : (ps : List SetPart) (l : List ℕ) (x : RawElement) (r : List ℕ) (count : ℕ) → Counted ps l count → TakesFirst l x r → Counted ps r (count + 1)
counted_next ps l x r count i f =
    let h = first_part i.others l x r i.elements f in
    record { others = h.others; elements = h.elements; total = omega (arith, i.total, ap length h.is) }

pub counted_all : (ps : List SetPart) (l : List ℕ) (count : ℕ) → Counted ps l count → NoFirst l → count ≡ length ps
counted_all ps l count i n = omega (arith, i.total, ap length (no_part i.others l i.elements n))

-- what P says of elements it says of the last one that was met and those that are left
pub record OrderLeft (P : List SetPart → Type 0) (ps : List SetPart) (x : RawElement) (l : List ℕ) : Type 0 where
  pub others : List SetPart
  pub elements : AreElements others l
  pub same : P ps ↔ P (part_of x ∷ others)

pub order_begin : (P : List SetPart → Type 0) (ps : List SetPart) (s : List ℕ) (x : RawElement) (r : List ℕ) → AreElements ps s → TakesFirst s x r →
    OrderLeft P ps x r
order_begin P ps s x r a f =
    let h = first_part ps s x r a f in
    record { others = h.others; elements = h.elements; same = subst (λ (qs : List SetPart). P ps ↔ P qs) h.is (λ i. i, λ i. i) }

-- what holds of an element, the next one and others holds of the next one and the others
abbrev pub Passes : (List SetPart → Type 0) → SetPart → SetPart → Type 0
Passes P p q = (qs : List SetPart) → P (p ∷ q ∷ qs) ↔ P (q ∷ qs)

-- it doesn't hold of an element, the next one and any others
abbrev pub Stops : (List SetPart → Type 0) → SetPart → SetPart → Type 0
Stops P p q = (qs : List SetPart) → P (p ∷ q ∷ qs) → ⊥

pub order_next : (P : List SetPart → Type 0) (ps : List SetPart) (x y : RawElement) (l r : List ℕ) → OrderLeft P ps x l → TakesFirst l y r →
    Passes P (part_of x) (part_of y) → OrderLeft P ps y r
order_next P ps x y l r i f pass =
    let h = first_part i.others l y r i.elements f in
    let same = subst (λ (qs : List SetPart). P ps ↔ P (part_of x ∷ qs)) h.is i.same in
    let step = pass h.others in
    record { others = h.others; elements = h.elements; same = (λ a. step.0 (same.0 a), λ a. same.1 (step.1 a)) }

pub order_stops : (P : List SetPart → Type 0) (ps : List SetPart) (x y : RawElement) (l r : List ℕ) (b : Bool) → OrderLeft P ps x l → TakesFirst l y r →
    Stops P (part_of x) (part_of y) → (IsTrue b → ⊥) → IsTrue b ↔ P ps
order_stops P ps x y l r b i f stop fails =
    let h = first_part i.others l y r i.elements f in
    let same = subst (λ (qs : List SetPart). P ps ↔ P (part_of x ∷ qs)) h.is i.same in
    (λ holds. absurd (fails holds), λ a. absurd (stop h.others (same.0 a)))

pub order_ends : (P : List SetPart → Type 0) (ps : List SetPart) (x : RawElement) (l : List ℕ) (b : Bool) → OrderLeft P ps x l → NoFirst l →
    P (part_of x ∷ []) → IsTrue b → IsTrue b ↔ P ps
order_ends P ps x l b i n one holds =
    let same = subst (λ (qs : List SetPart). P ps ↔ P (part_of x ∷ qs)) (no_part i.others l i.elements n) i.same in
    (λ y. same.1 one, λ a. holds)

pub order_none : (P : List SetPart → Type 0) (ps : List SetPart) (s : List ℕ) (b : Bool) → AreElements ps s → NoFirst s → P [] → IsTrue b → IsTrue b ↔ P ps
order_none P ps s b a n none holds = (λ y. subst P (sym (no_part ps s a n)) none, λ i. holds)

-- an element is in order after one that it isn't before
pub in_order_passes : (o : SetOrder) (p q : SetPart) → is_lt (set_order o q p) ≡ false → Passes (InOrder o) p q
in_order_passes o p q e qs = (λ a. a.1, λ a. ((λ (k : is_lt (set_order o q p) ≡ true). absurd (cc)), a))

pub in_order_stops : (o : SetOrder) (p q : SetPart) → is_lt (set_order o q p) ≡ true → Stops (InOrder o) p q
in_order_stops o p q e qs a = a.0 e

-- elements ascend by tags where the tag of the first is lower than that of the next one
pub ascent_passes : (p q : SetPart) → is_lt (tag_cmp p.tag q.tag) ≡ true → Passes AscendByTags p q
ascent_passes p q e qs = (λ a. a.1, λ a. (e, a))

pub ascent_stops : (p q : SetPart) → is_lt (tag_cmp p.tag q.tag) ≡ false → Stops AscendByTags p q
ascent_stops p q e qs a = let lower = a.0 in absurd (cc)

-- two rows of elements are one
pub elements_append : (ps qs : List SetPart) (a b : List ℕ) → AreElements ps a → AreElements qs b → AreElements (ps ++ qs) (a ++ b)
elements_append [] qs a b x y = subst (AreElements qs) (ap (λ z. z ++ b) (sym x.joined)) y
elements_append (p ∷ ps) qs a b x y =
    let z = elements_append ps qs (concat (parts_bytes ps)) b (record { each = x.each.1; joined = refl }) y in
    record {
      each = (x.each.0, z.each);
      joined = ap (λ s. s ++ b) x.joined ∙ append_assoc p.bytes (concat (parts_bytes ps)) b ∙ ap (λ s. p.bytes ++ s) z.joined;
    }

-- one element is a row
pub one_element : (p : SetPart) → IsElementPart p → AreElements (p ∷ []) p.bytes
one_element p h = record { each = (h, tt); joined = sym (append-nil p.bytes) }
