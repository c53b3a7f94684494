-- Where the orders of elements by tags and by octets agree.
use Rattle.std.proofs.Common.{◌≡◌, ◌↔◌, IsTrue, ℕ, zero, suc, ◌^◌, ◌<◌, ◌≤◌, Bool, true, false, List, [], ◌∷◌, ◌++◌, length, Some, refl, sym, ap, ap₂, ◌∙◌, subst, arith}
use Rattle.std.specs.Cmp.{IsStrictWeakOrder}
use Rattle.std.specs.List.{AllByRecursion}
use Rattle.std.specs.Ordering.{nat_cmp, is_lt, ordering_then, ordering_reverse}
use Rattle.std.specs.Prelude.{if◌then◌else◌, slice_index_or, slice_set}
use Rattle.std.specs.declared.cmp.Ordering.{Ordering}
use Rattle.std.specs.declared.cmp.Ordering.TheVariants.{Less, Equal, Greater}
use Rattle.std.proofs.lemmas.Cmp.{nat_list_cmp_total, ranked}
use Rattle.std.proofs.lemmas.List.Sorted.{ranks_by}
use Rattle.yasna_base.specs.Identifier.{class_number, identifier, BeginsWithTag, begins}
use Rattle.yasna_base.specs.Order.{octets_cmp, tag_cmp, put_in}
use Rattle.yasna_base.specs.Set.{SetPart}
use Rattle.yasna_base.specs.declared.mode.BERMode.TheVariants.{Ber}
use Rattle.yasna_base.specs.declared.tag.PCBit.{PCBit}
use Rattle.yasna_base.specs.declared.tag.Tag.{Tag}
use Rattle.yasna_base.proofs.Element.{element_begins}
use Rattle.yasna_base.proofs.Identifier.{identifier_exact, begins_once}
use Rattle.yasna_base.proofs.Order.{Rises, rises_order, all_order, all_order_back}
use Rattle.yasna_base.proofs.Raw.{raw_into, raw_element}
use Rattle.yasna_bytes.specs.declared.bytes.walk.RawElement.{RawElement}
use Rattle.asn1der_convert.specs.Agreement.{Agree, AgreesWithAll, HasShape, IsShaped, AreBounds, PlaceAt, AreWider, Widens, AddsToBounds, Remembers}
use Rattle.asn1der_convert.specs.Rows.{IsElementPart, AreElements, part_of, TakesFirst, NoFirst}
use Rattle.asn1der_convert.specs.SetOrder.{set_order, InOrder, by_octets, IsOrderKnown}
use Rattle.asn1der_convert.specs.declared.agreement.Bounds.{Bounds}
use Rattle.asn1der_convert.specs.declared.agreement.Shape.{Shape}
use Rattle.asn1der_convert.specs.declared.set_order.SetOrder.TheVariants.{Tags, Octets}
use Rattle.asn1der_convert.proofs.Rows.{first_part, no_part}
use Rattle.asn1der_convert.proofs.SetOrder.{octets_rank, tag_total, in_order_rises}
use Rattle.asn1der_convert.proofs.Shapes.{compares, tag_not_below, Agreeing, agrees_between}

pub agree_back : (p q : SetPart) → Agree p q → Agree q p
agree_back p q a = record { up = a.down; down = a.up }

-- an element begins with an identifier of its tag with this bit
pub record HasBit (p : SetPart) (bit : PCBit) : Type 0 where
  pub rest : List ℕ
  pub joined : p.bytes ≡ identifier p.tag bit ++ rest

-- an element begins with its tag
pub element_tag : (p : SetPart) → IsElementPart p → BeginsWithTag p.tag p.bytes
element_tag p h =
    let e = raw_element h.value p.bytes (raw_into 100 Ber h.value p.bytes h.raw) in
    subst (λ t. BeginsWithTag t p.bytes) (sym h.tag) (element_begins Ber h.value.tag h.value.bit e.contents p.bytes e.element)

number_in_range : (p : SetPart) → IsElementPart p → p.tag.tag_number < 2 ^ 64
number_in_range p h =
    let over = raw_into 100 Ber h.value p.bytes h.raw in
    subst (λ (t : Tag). t.tag_number < 2 ^ 64) (sym h.tag) over.in_range

own_bit : (p : SetPart) → BeginsWithTag p.tag p.bytes → (bit : PCBit) × HasBit p bit
own_bit p (begins bit rest j) = (bit, record { rest = rest; joined = j })

-- an element doesn't begin otherwise
pub no_shape : (p : SetPart) → IsElementPart p → ((t : Tag) (bit : PCBit) (r : List ℕ) → t.tag_number < 2 ^ 64 → p.bytes ≡ identifier t bit ++ r → ⊥) → ⊥
no_shape p h none =
    let x = own_bit p (element_tag p h) in
    none p.tag x.0 x.1.rest (number_in_range p h) x.1.joined

-- elements of two tags are in the order of their identifiers
apart : (p q : SetPart) (bit other : PCBit) → HasBit p bit → HasBit q other → (p.tag ≡ q.tag → ⊥) →
    octets_cmp p.bytes q.bytes ≡ octets_cmp (identifier p.tag bit) (identifier q.tag other)
apart p q bit other x y f =
    ap₂ octets_cmp x.joined y.joined ∙
    compares (identifier p.tag bit) (identifier q.tag other) x.rest y.rest (λ v w e. f (identifier_exact p.tag q.tag bit other v w e).0)

to_identifiers : (p q : SetPart) (bit other : PCBit) → HasBit p bit → HasBit q other → Agree p q → Agreeing p.tag bit q.tag other
to_identifiers p q bit other x y a = record {
  up = λ h k. a.up h (ap is_lt (apart q p other bit y x (λ e. tag_not_below p.tag q.tag (sym e) h)) ∙ k);
  down = λ h k. a.down h (ap is_lt (apart p q bit other x y (λ e. tag_not_below q.tag p.tag (sym e) h)) ∙ k);
}

from_identifiers : (p q : SetPart) (bit other : PCBit) → HasBit p bit → HasBit q other → Agreeing p.tag bit q.tag other → Agree p q
from_identifiers p q bit other x y a = record {
  up = λ h k. a.up h (sym (ap is_lt (apart q p other bit y x (λ e. tag_not_below p.tag q.tag (sym e) h))) ∙ k);
  down = λ h k. a.down h (sym (ap is_lt (apart p q bit other x y (λ e. tag_not_below q.tag p.tag (sym e) h))) ∙ k);
}

-- what the shape of an element's identifier says of its tag
record ShapedTag (f : Shape) (p : SetPart) : Type 0 where
  identified : HasBit p f.bit
  class : f.class ≡ p.tag.tag_class
  size : f.size ≡ length (identifier p.tag f.bit)

shaped_tag : (f : Shape) (p : SetPart) → IsShaped f p → ShapedTag f p
shaped_tag f p h =
    let s = h.shape in
    let x = own_bit p (element_tag p h.own) in
    let same : s.tag ≡ p.tag = (identifier_exact s.tag p.tag f.bit x.0 s.rest x.1.rest (sym s.joined ∙ x.1.joined)).0 in
    record {
      identified = record { rest = s.rest; joined = s.joined ∙ ap (λ t. identifier t f.bit ++ s.rest) same };
      class = s.class ∙ ap (λ (t : Tag). t.tag_class) same;
      size = s.size ∙ ap (λ t. length (identifier t f.bit)) same;
    }

-- what agrees with two elements of a shape agrees with one between them
agree_between : (f : Shape) (a x b z : SetPart) → IsShaped f a → IsShaped f x → IsShaped f b → IsElementPart z → a.tag.tag_number ≤ x.tag.tag_number →
    x.tag.tag_number ≤ b.tag.tag_number → Agree z a → Agree z b → Agree z x
agree_between f a x b z i j k e low high g h =
    let sa = shaped_tag f a i in
    let sx = shaped_tag f x j in
    let sb = shaped_tag f b k in
    let own = own_bit z (element_tag z e) in
    from_identifiers z x own.0 f.bit own.1 sx.identified
    (agrees_between z.tag a.tag x.tag b.tag own.0 f.bit
    (record {
      first_class = ap class_number (sym sa.class ∙ sx.class);
      last_class = ap class_number (sym sb.class ∙ sx.class);
      first_size = sym sa.size ∙ sx.size;
      last_size = sym sb.size ∙ sx.size;
      first_number = low;
      last_number = high;
    })
    (to_identifiers z a own.0 f.bit own.1 sa.identified g) (to_identifiers z b own.0 f.bit own.1 sb.identified h))

abbrev bounds : Shape → RawElement → RawElement → Bounds
bounds f x y = record { shape = f; least = x; greatest = y }

-- an element with a number below the least
pub lower_bound : (b : Bounds) (x : RawElement) → x.tag.tag_number < b.least.tag.tag_number → Widens b x (bounds b.shape x b.greatest)
lower_bound b x low h s = record {
  bounds = record { least = s; greatest = h.greatest; order = omega (arith, low, h.order) };
  shape = refl;
  same = λ p e. (
    λ a. ((agree_between b.shape (part_of x) (part_of b.least) (part_of b.greatest) p s h.least h.greatest e (omega (arith, low)) h.order a.0 a.1, a.1), a.0),
    λ a. (a.1, a.0.1),
  );
}

-- one with a number above the greatest
pub upper_bound : (b : Bounds) (x : RawElement) → b.greatest.tag.tag_number < x.tag.tag_number → Widens b x (bounds b.shape b.least x)
upper_bound b x high h s = record {
  bounds = record { least = h.least; greatest = s; order = omega (arith, high, h.order) };
  shape = refl;
  same = λ p e. (
    λ a. ((a.0, agree_between b.shape (part_of b.least) (part_of b.greatest) (part_of x) p h.least h.greatest s e h.order (omega (arith, high)) a.0 a.1), a.1),
    λ a. (a.0.0, a.1),
  );
}

-- one between them
pub within_bounds : (b : Bounds) (x : RawElement) → b.least.tag.tag_number ≤ x.tag.tag_number → x.tag.tag_number ≤ b.greatest.tag.tag_number → Widens b x b
within_bounds b x low high h s = record {
  bounds = h;
  shape = refl;
  same = λ p e. (
    λ a. (a, agree_between b.shape (part_of b.least) (part_of x) (part_of b.greatest) p h.least s h.greatest e low high a.0 a.1),
    λ a. a.0,
  );
}

-- bounds were widened in their place
pub replaced : (bs : List Bounds) (k : ℕ) (d : Bounds) (x : RawElement) (c : Bounds) → k < length bs → AllByRecursion AreBounds bs →
    AreWider (slice_index_or bs k d) x c → AddsToBounds bs x (slice_set bs k c)
replaced [] k d x c l a w = absurd (omega (arith, l))
replaced (b ∷ bs) zero d x c l a w = record {
  bounds = (w.bounds, a.1);
  same = λ p e. (
    λ h. let s = (w.same p e).0 h.0 in ((s.0, h.1), s.1),
    λ h. ((w.same p e).1 (h.0.0, h.1), h.0.1),
  );
}
replaced (b ∷ bs) (suc k) d x c l a w =
    let r = replaced bs k d x c (omega (arith, l)) a.1 w in
    record {
      bounds = (a.0, r.bounds);
      same = λ p e. (
        λ h. let s = (r.same p e).0 h.1 in ((h.0, s.0), s.1),
        λ h. (h.0.0, (r.same p e).1 (h.0.1, h.1)),
      );
    }

-- where x has their shape
pub bounds_of : (bs : List Bounds) (k : ℕ) (d : Bounds) → k < length bs → AllByRecursion AreBounds bs → AreBounds (slice_index_or bs k d)
bounds_of [] k d l a = absurd (omega (arith, l))
bounds_of (b ∷ bs) zero d l a = a.0
bounds_of (b ∷ bs) (suc k) d l a = bounds_of bs k d (omega (arith, l)) a.1

-- no bounds are of the shape
abbrev pub NoneHas : Shape → List Bounds → Type 0
NoneHas f bs = AllByRecursion (λ (b : Bounds). b.shape ≡ f → ⊥) bs

-- an element of a further shape
pub added : (bs : List Bounds) (f : Shape) (x : RawElement) → AllByRecursion AreBounds bs → IsShaped f (part_of x) → AddsToBounds bs x (bs ++ (bounds f x x ∷ []))
added [] f x a s = record {
  bounds = (record { least = s; greatest = s; order = omega arith }, tt);
  same = λ p e. (λ h. (tt, h.0.0), λ h. ((h.1, h.1), tt));
}
added (b ∷ bs) f x a s =
    let r = added bs f x a.1 s in
    record {
      bounds = (a.0, r.bounds);
      same = λ p e. (
        λ h. let s = (r.same p e).0 h.1 in ((h.0, s.0), s.1),
        λ h. (h.0.0, (r.same p e).1 (h.0.1, h.1)),
      );
    }

-- the bounds of its shape were widened
pub remembered : (bs : List Bounds) (k : ℕ) (b : Bounds) (f : Shape) (x : RawElement) (c : Bounds) → PlaceAt bs f (Some k) → b ≡ slice_index_or bs k b →
    HasShape x.bytes.now f → Widens b x c → Remembers bs x (slice_set bs k c)
remembered bs k b f x c at i s widens a e =
    let same : b.shape ≡ f = ap (λ (z : Bounds). z.shape) i ∙ at.1 b in
    let own = subst AreBounds (sym i) (bounds_of bs k b at.0 a) in
    let wider = widens own (record { own = e; shape = subst (HasShape x.bytes.now) (sym same) s }) in
    replaced bs k b x c at.0 a (subst (λ (z : Bounds). AreWider z x c) i wider)

-- bounds of its shape were added
pub remembered_first : (bs cs : List Bounds) (f : Shape) (x : RawElement) → HasShape x.bytes.now f → cs ≡ bs ++ (bounds f x x ∷ []) → Remembers bs x cs
remembered_first bs cs f x s i a e = subst (AddsToBounds bs x) (sym i) (added bs f x a (record { own = e; shape = s }))

-- each two of the elements agree
abbrev pub AllAgree : List SetPart → Type 0
AllAgree [] = Unit {0}
AllAgree (p ∷ ps) = AllByRecursion (Agree p) ps × AllAgree ps

all_put : (P : SetPart → Type 0) (x : SetPart) (ys : List SetPart) → P x → AllByRecursion P ys → AllByRecursion P (put_in (set_order Octets) x ys)
all_put P x [] p q = (p, tt)
all_put P x (y ∷ ys) p q = step (is_lt (set_order Octets y x)) (all_put P x ys p q.1)
  where
    step : (b : Bool) → AllByRecursion P (put_in (set_order Octets) x ys) → AllByRecursion P (if b then (y ∷ put_in (set_order Octets) x ys) else (x ∷ (y ∷ ys)))
    step true a = (q.0, a)
    step false a = (p, q)

all_put_back : (P : SetPart → Type 0) (x : SetPart) (ys : List SetPart) → AllByRecursion P (put_in (set_order Octets) x ys) → P x × AllByRecursion P ys
all_put_back P x [] a = a
all_put_back P x (y ∷ ys) a = step (is_lt (set_order Octets y x)) (all_put_back P x ys) a
  where
    step : (b : Bool) → (AllByRecursion P (put_in (set_order Octets) x ys) → P x × AllByRecursion P ys) →
        AllByRecursion P (if b then (y ∷ put_in (set_order Octets) x ys) else (x ∷ (y ∷ ys))) → P x × AllByRecursion P (y ∷ ys)
    step true f p = let r = f p.1 in (r.0, (p.0, r.1))
    step false f p = p

agree_put : (x : SetPart) (ys : List SetPart) → AllByRecursion (Agree x) ys → AllAgree ys → AllAgree (put_in (set_order Octets) x ys)
agree_put x [] a b = (tt, tt)
agree_put x (y ∷ ys) a b = step (is_lt (set_order Octets y x)) (agree_put x ys a.1 b.1)
  where
    step : (c : Bool) → AllAgree (put_in (set_order Octets) x ys) → AllAgree (if c then (y ∷ put_in (set_order Octets) x ys) else (x ∷ (y ∷ ys)))
    step true r = (all_put (Agree y) x ys (agree_back x y a.0) b.0, r)
    step false r = (a, b)

agree_put_back : (x : SetPart) (ys : List SetPart) → AllAgree (put_in (set_order Octets) x ys) → AllByRecursion (Agree x) ys × AllAgree ys
agree_put_back x [] a = (tt, tt)
agree_put_back x (y ∷ ys) a = step (is_lt (set_order Octets y x)) (agree_put_back x ys) a
  where
    step : (c : Bool) → (AllAgree (put_in (set_order Octets) x ys) → AllByRecursion (Agree x) ys × AllAgree ys) →
        AllAgree (if c then (y ∷ put_in (set_order Octets) x ys) else (x ∷ (y ∷ ys))) → AllByRecursion (Agree x) (y ∷ ys) × AllAgree (y ∷ ys)
    step true f p =
        let r = f p.1 in
        let own = all_put_back (Agree y) x ys p.0 in
        ((agree_back y x own.0, r.0), (own.1, r.1))
    step false f p = p

-- so do they in the order of a SET OF
agree_sorted : (ps : List SetPart) → AllAgree ps → AllAgree (by_octets ps)
agree_sorted [] a = tt
agree_sorted (p ∷ ps) a = agree_put p (by_octets ps) (all_order (set_order Octets) octets_rank (Agree p) ps a.0) (agree_sorted ps a.1)

agree_unsorted : (ps : List SetPart) → AllAgree (by_octets ps) → AllAgree ps
agree_unsorted [] a = tt
agree_unsorted (p ∷ ps) a =
    let r = agree_put_back p (by_octets ps) a in
    (all_order_back (set_order Octets) octets_rank (Agree p) ps r.0, agree_unsorted ps r.1)

-- bytes that tie are equal
pub equal_same : (a b : List ℕ) → octets_cmp a b ≡ Equal → a ≡ b
equal_same [] [] e = refl
equal_same [] (y ∷ b) e = let f : Less ≡ Equal = e in absurd (cc)
equal_same (x ∷ a) [] e = let f : Greater ≡ Equal = e in absurd (cc)
equal_same (x ∷ a) (y ∷ b) e = step (nat_cmp x y) refl e (λ f. equal_same a b f)
  where
    step : (o : Ordering) → o ≡ nat_cmp x y → ordering_then o (octets_cmp a b) ≡ Equal → (octets_cmp a b ≡ Equal → a ≡ b) → x ∷ a ≡ y ∷ b
    step Less f g h = let i : Less ≡ Equal = g in absurd (cc)
    step Equal f g h = ap₂ (λ z zs. z ∷ zs) (ranked x y Equal f) (h g)
    step Greater f g h = let i : Greater ≡ Equal = g in absurd (cc)

not_swapped : (p q : SetPart) → IsElementPart p → IsElementPart q → is_lt (octets_cmp q.bytes p.bytes) ≡ false → Agree p q → is_lt (tag_cmp q.tag p.tag) ≡ true → ⊥
not_swapped p q h k f a swapped = go (octets_cmp p.bytes q.bytes) refl
  where
    go : (o : Ordering) → octets_cmp p.bytes q.bytes ≡ o → ⊥
    go Less e = a.down swapped (ap is_lt e)
    go Equal e =
        let same = equal_same p.bytes q.bytes e in
        tag_not_below q.tag p.tag (begins_once q.tag p.tag q.bytes (element_tag q k) (subst (BeginsWithTag p.tag) same (element_tag p h))) swapped
    go Greater e =
        let back : octets_cmp q.bytes p.bytes ≡ Less = nat_list_cmp_total.antisymm q.bytes p.bytes ∙ ap ordering_reverse e in
        let g : true ≡ false = sym (ap is_lt back) ∙ f in
        absurd (cc)

-- elements that agree are in the order of their tags once they are in that of a SET OF
known_of : (qs : List SetPart) → AllByRecursion IsElementPart qs → Rises (λ p q. is_lt (set_order Octets p q)) qs → AllAgree qs → InOrder Tags qs
known_of [] e r a = tt
known_of (p ∷ []) e r a = (λ i. i, tt)
known_of (p ∷ q ∷ qs) e r a = (λ i. not_swapped p q e.0 e.1.0 r.0.0 a.0.0 i, known_of (q ∷ qs) e.1 r.1 a.1)

-- elements that are in both orders agree
agree_of : (qs : List SetPart) → Rises (λ p q. is_lt (set_order Octets p q)) qs → Rises (λ p q. is_lt (set_order Tags p q)) qs → AllAgree qs
agree_of [] r t = tt
agree_of (p ∷ qs) r t = (both qs r.0 t.0, agree_of qs r.1 t.1)
  where
    both : (qs : List SetPart) → AllByRecursion (λ q. is_lt (set_order Octets q p) ≡ false) qs → AllByRecursion (λ q. is_lt (set_order Tags q p) ≡ false) qs →
        AllByRecursion (Agree p) qs
    both [] a b = tt
    both (q ∷ qs) a b = (
      record {
        up = λ h k. let e : false ≡ true = sym a.0 ∙ k in absurd (cc);
        down = λ h k. let e : false ≡ true = sym b.0 ∙ h in absurd (cc);
      },
      both qs a.1 b.1,
    )

tags_rank : IsStrictWeakOrder (λ (p q : SetPart). is_lt (set_order Tags p q))
tags_rank = ranks_by tag_total (λ (p : SetPart). p.tag)

-- the order of elements is known exactly if each two agree
known_if_agree : (ps : List SetPart) → AllByRecursion IsElementPart ps → AllAgree ps ↔ IsOrderKnown ps
known_if_agree ps e =
    let rises = rises_order (set_order Octets) octets_rank ps in (
      λ a. known_of (by_octets ps) (all_order (set_order Octets) octets_rank IsElementPart ps e) rises (agree_sorted ps a),
      λ k. agree_unsorted ps (agree_of (by_octets ps) rises (in_order_rises Tags tags_rank (by_octets ps) k)),
    )

-- whether the elements ps agree depends on those that are left of them, and on the bounds of the others
pub record Undecided (ps : List SetPart) (bs : List Bounds) (l : List ℕ) : Type 0 where
  pub others : List SetPart
  pub elements : AreElements others l
  pub bounds : AllByRecursion AreBounds bs
  pub same : AllAgree ps ↔ (AllByRecursion (λ q. AgreesWithAll q bs) others × AllAgree others)

agree_with_none : (ps : List SetPart) → AllByRecursion (λ q. AgreesWithAll q []) ps
agree_with_none [] = tt
agree_with_none (p ∷ ps) = (tt, agree_with_none ps)

pub undecided_begin : (ps : List SetPart) (s : List ℕ) → AreElements ps s → Undecided ps [] s
undecided_begin ps s a = record { others = ps; elements = a; bounds = tt; same = (λ h. (agree_with_none ps, h), λ h. h.1) }

all_join : (bs cs : List Bounds) (x : RawElement) (qs : List SetPart) → AddsToBounds bs x cs → AllByRecursion IsElementPart qs →
    AllByRecursion (λ q. AgreesWithAll q bs) qs → AllByRecursion (Agree (part_of x)) qs → AllByRecursion (λ q. AgreesWithAll q cs) qs
all_join bs cs x [] w e a b = tt
all_join bs cs x (q ∷ qs) w e a b = ((w.same q e.0).1 (a.0, agree_back (part_of x) q b.0), all_join bs cs x qs w e.1 a.1 b.1)

all_split : (bs cs : List Bounds) (x : RawElement) (qs : List SetPart) → AddsToBounds bs x cs → AllByRecursion IsElementPart qs →
    AllByRecursion (λ q. AgreesWithAll q cs) qs → AllByRecursion (λ q. AgreesWithAll q bs) qs × AllByRecursion (Agree (part_of x)) qs
all_split bs cs x [] w e a = (tt, tt)
all_split bs cs x (q ∷ qs) w e a =
    let r = all_split bs cs x qs w e.1 a.1 in
    let s = (w.same q e.0).0 a.0 in
    ((s.0, r.0), (agree_back q (part_of x) s.1, r.1))

pub undecided_next : (ps : List SetPart) (bs cs : List Bounds) (l : List ℕ) (x : RawElement) (r : List ℕ) → Undecided ps bs l → TakesFirst l x r →
    AgreesWithAll (part_of x) bs → Remembers bs x cs → Undecided ps cs r
undecided_next ps bs cs l x r u f agrees remembers =
    let h = first_part u.others l x r u.elements f in
    let w = remembers u.bounds h.own in
    let same = subst (λ (qs : List SetPart). AllAgree ps ↔ (AllByRecursion (λ q. AgreesWithAll q bs) qs × AllAgree qs)) h.is u.same in
    record {
      others = h.others;
      elements = h.elements;
      bounds = w.bounds;
      same = (
        λ a. let s = same.0 a in (all_join bs cs x h.others w h.elements.each s.0.1 s.1.0, s.1.1),
        λ a. let s = all_split bs cs x h.others w h.elements.each a.0 in same.1 ((agrees, s.0), (s.1, a.1)),
      );
    }

-- an element doesn't agree with the bounds
pub undecided_stops : (ps : List SetPart) (s : List ℕ) (bs : List Bounds) (l : List ℕ) (x : RawElement) (r : List ℕ) (b : Bool) → AreElements ps s → Undecided ps bs l →
    TakesFirst l x r → (AgreesWithAll (part_of x) bs → ⊥) → (IsTrue b → ⊥) → IsTrue b ↔ IsOrderKnown ps
undecided_stops ps s bs l x r b a u f differs fails =
    let h = first_part u.others l x r u.elements f in
    let same = subst (λ (qs : List SetPart). AllAgree ps ↔ (AllByRecursion (λ q. AgreesWithAll q bs) qs × AllAgree qs)) h.is u.same in
    (λ y. absurd (fails y), λ k. absurd (differs (same.0 ((known_if_agree ps a.each).1 k)).0.0))

-- all elements agreed
pub undecided_ends : (ps : List SetPart) (s : List ℕ) (bs : List Bounds) (l : List ℕ) (b : Bool) → AreElements ps s → Undecided ps bs l → NoFirst l → IsTrue b →
    IsTrue b ↔ IsOrderKnown ps
undecided_ends ps s bs l b a u n holds =
    let same = subst (λ (qs : List SetPart). AllAgree ps ↔ (AllByRecursion (λ q. AgreesWithAll q bs) qs × AllAgree qs)) (no_part u.others l u.elements n) u.same in
    (λ y. (known_if_agree ps a.each).0 (same.1 (tt, tt)), λ k. holds)
