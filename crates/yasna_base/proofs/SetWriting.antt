-- The laws of writing of SET.
use Rattle.std.proofs.Common.{◌≡◌, ℕ, zero, suc, ◌+◌, ◌^◌, ◌<◌, ◌⊎◌, inl, inr, false, List, [], ◌∷◌, ◌++◌, length, get_or, map, drop, refl, ap, ap₂, ◌∙◌, sym, arith, subst, lt-ltb}
use Rattle.std.specs.Cmp.{IsStrictWeakOrder}
use Rattle.std.specs.List.{AllByRecursion, concat}
use Rattle.std.specs.List.Sorted.{IsSorted, IsSortedBy, IsPermutation}
use Rattle.std.specs.Ordering.{nat_cmp, is_lt, ordering_then}
use Rattle.std.specs.Prelude.{if◌then◌else◌, nat_lt}
use Rattle.std.specs.declared.cmp.Ordering.{Ordering}
use Rattle.std.specs.declared.cmp.Ordering.TheVariants.{Less, Equal, Greater}
use Rattle.std.proofs.lemmas.Cmp.{nat_list_cmp_total}
use Rattle.std.proofs.lemmas.List.Sorted.{ranks_by}
use Rattle.std.proofs.lemmas.Map.Lookups.{exact_unsigned}
use Rattle.std.proofs.Math.ListN.{get_or-map}
use Rattle.std.proofs.lemmas.List.{length-map}
use Rattle.std.proofs.lemmas.List.Elements.{Contains-get_or}
use Rattle.yasna_base.specs.declared.mode.BERMode.{BERMode}
use Rattle.yasna_base.specs.declared.mode.BERMode.TheVariants.{Ber, Der, Cer}
use Rattle.yasna_base.specs.declared.tag.Tag.{Tag}
use Rattle.yasna_base.specs.Canonical.{IsCanonicalMode, HoldsEncoding, enclosed_encoding, enclosed_depth, HasEncoding}
use Rattle.yasna_base.specs.Digits.{IsBytes}
use Rattle.yasna_base.specs.declared.tag.PCBit.{PCBit}
use Rattle.yasna_base.specs.declared.tag.PCBit.TheVariants.{Primitive, Constructed}
use Rattle.yasna_base.specs.Element.{TakesIndefinite, end_of_contents, Definite, definite, Indefinite, Enclosed}
use Rattle.yasna_base.specs.Grammar.{Depth}
use Rattle.yasna_base.specs.Identifier.{identifier, class_number, BeginsWithTag}
use Rattle.yasna_base.specs.Length.{SpellsLength}
use Rattle.yasna_base.specs.Order.{tag_cmp, octets_cmp, in_order}
use Rattle.yasna_base.specs.Raw.{RawValue, raw_cer_encoding, RawFramed, with_length, with_zeros, RawOver, IsRaw}
use Rattle.yasna_base.specs.SequenceOf.{elements_encoding, elements_depth}
use Rattle.yasna_base.specs.Set.{AreInSetOrder, SetElements, IsSet, SetPart, HasItsTag, part_key, part_cmp, parts_bytes, SetContents}
use Rattle.yasna_base.specs.SetWriting.{MakeElement, encodings, own_encoding, raw_part, in_part_order, AreRaw, CanSet, set_encoding, TagsKeepOrder, TagsAreUnique, SetIsWritten, SetKeepsWritingLaws}
use Rattle.yasna_base.proofs.Canonical.{canonical_element_bytes, canonical_element_only, definite_whole, opening_bytes, enclosed_has}
use Rattle.yasna_base.proofs.Element.{element_begins}
use Rattle.yasna_base.proofs.Identifier.{class_same, begins_once}
use Rattle.yasna_base.proofs.Length.{shortest_in_mode}
use Rattle.yasna_base.proofs.Order.{no_head, rises_map, rises_order, sorted_rises, same_side, all_order, all_permuted, in_order_is, in_order_map, in_order_permuted}
use Rattle.yasna_base.proofs.Pieces.{pieces_wider}
use Rattle.yasna_base.proofs.Raw.{raw_zero, raw_of, raw_into, raw_element}
use Rattle.yasna_base.proofs.SequenceOf.{encodings_joined, each_encoding, each_only, elements_have}
use Rattle.yasna_base.proofs.SetLaws.{octets_tie, tag_of_key}

-- what a raw element says of its own tag and payload
pub record OwnTag (v : RawValue) (b : List ℕ) : Type 0 where
  pub in_range : v.tag.tag_number < 2 ^ 64
  pub in_bytes : IsBytes v.payload
  pub begins : BeginsWithTag v.tag b

-- it begins with its tag, and its payload is bytes
pub raw_begins : (n : ℕ) (m : BERMode) (v : RawValue) (b : List ℕ) → IsRaw m n v b → OwnTag v b
raw_begins zero m v b x = absurd (raw_zero m v b x)
raw_begins (suc n) m v b x =
    let y = raw_into n m v b x in
    let z = raw_element v b y in
    record { in_range = y.in_range; in_bytes = y.in_bytes; begins = element_begins m v.tag v.bit z.contents b z.element }

-- in CER an element of definite length is primitive
cer_whole : (t : Tag) (p : PCBit) (c b : List ℕ) → Definite Cer t p c b → b ≡ raw_cer_encoding t p c
cer_whole t Primitive c b d = definite_whole Cer t c b tt d
cer_whole t Constructed c b d = absurd (d.taken)

-- in CER an element of indefinite length is constructed
cer_constructed : (t : Tag) (p : PCBit) (c y b : List ℕ) → Indefinite Cer t p c b → y ≡ c ++ end_of_contents → b ≡ raw_cer_encoding t p y
cer_constructed t Primitive c y b i e = absurd (i.taken)
cer_constructed t Constructed c y b i e = i.joined ∙ ap (λ z. identifier t Constructed ++ (128 ∷ z)) (sym e)

framed_only : {R : RawValue → List ℕ → Type 0} (m : BERMode) (v : RawValue) (b : List ℕ) → IsCanonicalMode m → RawOver R m v b → RawFramed R m v b →
    b ≡ own_encoding m v
framed_only Ber v b h x y = absurd h
framed_only Der v b h x (with_length d j) =
    canonical_element_only Der v.tag v.bit v.payload b h (record { in_range = x.in_range; in_bytes = x.in_bytes; framed = definite d })
framed_only Der v b h x (with_zeros c i j e) = absurd (i.taken)
framed_only Cer v b h x (with_length d j) = cer_whole v.tag v.bit v.payload b d
framed_only Cer v b h x (with_zeros c i j e) = cer_constructed v.tag v.bit c v.payload b i e

-- a canonical mode takes a raw element in its encoding alone
pub raw_only : (n : ℕ) (m : BERMode) (v : RawValue) (b : List ℕ) → IsCanonicalMode m → IsRaw m n v b → b ≡ own_encoding m v
raw_only zero m v b h x = absurd (raw_zero m v b x)
raw_only (suc n) m v b h x = let y = raw_into n m v b x in framed_only m v b h y y.framed

framed_in_ber : {R S : RawValue → List ℕ → Type 0} (v : RawValue) (b : List ℕ) → RawFramed R Der v b → RawFramed S Ber v b
framed_in_ber v b (with_length d j) =
    with_length (record {
      taken = tt;
      l = d.l;
      spelled = subst (λ l. SpellsLength Ber (length v.payload) l) (sym d.spelled.1) (shortest_in_mode Ber (length v.payload) d.spelled.0);
      joined = d.joined;
    }) (λ l. absurd l)
framed_in_ber v b (with_zeros c i j e) = absurd (i.taken)

raw_in_ber : (n : ℕ) (v : RawValue) (b : List ℕ) → IsRaw Der n v b → IsRaw Ber n v b
raw_in_ber zero v b x = absurd (raw_zero Der v b x)
raw_in_ber (suc n) v b x =
    let y = raw_into n Der v b x in
    raw_of n Ber v b (record { not_end = y.not_end; in_range = y.in_range; in_bytes = y.in_bytes; framed = framed_in_ber v b y.framed })

-- BER takes two zeros wherever CER does
ber_takes : (p : PCBit) → TakesIndefinite Cer p → TakesIndefinite Ber p
ber_takes Primitive h = h
ber_takes Constructed h = h

cer_framed : {R S : RawValue → List ℕ → Type 0} → ((v : RawValue) (b : List ℕ) → R v b → S v b) → (v : RawValue) (b : List ℕ) →
    RawFramed R Cer v b → RawFramed S Ber v b
cer_framed f v b (with_length d j) =
    with_length (record {
      taken = tt;
      l = d.l;
      spelled = subst (λ l. SpellsLength Ber (length v.payload) l) (sym d.spelled.1) (shortest_in_mode Ber (length v.payload) d.spelled.0);
      joined = d.joined;
    }) (λ l. absurd l)
cer_framed f v b (with_zeros c i j e) =
    with_zeros c (record { taken = ber_takes v.bit i.taken; joined = i.joined }) (j.0, pieces_wider f j.0 c j.1) e

raw_cer_in_ber : (n : ℕ) (v : RawValue) (b : List ℕ) → IsRaw Cer n v b → IsRaw Ber n v b
raw_cer_in_ber zero v b x = absurd (raw_zero Cer v b x)
raw_cer_in_ber (suc n) v b x =
    let y = raw_into n Cer v b x in
    raw_of n Ber v b (record { not_end = y.not_end; in_range = y.in_range; in_bytes = y.in_bytes; framed = cer_framed (raw_cer_in_ber n) v b y.framed })

-- a raw element of a canonical mode is one wherever that mode's encodings hold
pub raw_holds : (m o : BERMode) (n : ℕ) (v : RawValue) (b : List ℕ) → HoldsEncoding m o → IsRaw m n v b → IsRaw o n v b
raw_holds Ber o n v b h x = absurd h
raw_holds Der Ber n v b h x = raw_in_ber n v b x
raw_holds Der Der n v b h x = x
raw_holds Der Cer n v b h x = absurd h
raw_holds Cer Ber n v b h x = raw_cer_in_ber n v b x
raw_holds Cer Der n v b h x = absurd h
raw_holds Cer Cer n v b h x = x

-- within levels that are given nothing is said of how deep elements nest
abbrev no_depth : Depth RawValue
no_depth m v = 0

cer_bytes : (t : Tag) (p : PCBit) (c : List ℕ) → IsBytes c → length (raw_cer_encoding t p c) < 2 ^ 64 → IsBytes (raw_cer_encoding t p c)
cer_bytes t Primitive c bytes short = canonical_element_bytes Cer t Primitive c bytes short
cer_bytes t Constructed c bytes short = opening_bytes t c bytes

-- the encoding of bytes is bytes
pub own_bytes : (m : BERMode) (v : RawValue) → IsBytes v.payload → length (own_encoding m v) < 2 ^ 64 → IsBytes (own_encoding m v)
own_bytes Ber v bytes short = canonical_element_bytes Ber v.tag v.bit v.payload bytes short
own_bytes Der v bytes short = canonical_element_bytes Der v.tag v.bit v.payload bytes short
own_bytes Cer v bytes short = cer_bytes v.tag v.bit v.payload bytes short

-- raw elements within n levels have one encoding, where that is one
raw_has : (n : ℕ) → HasEncoding (λ m k v b. IsRaw m n v b) own_encoding no_depth (λ m v. IsRaw m n v (own_encoding m v))
raw_has n = record {
  in_bytes = λ m v can short. own_bytes m v (raw_begins n m v (own_encoding m v) can).in_bytes short;
  holds = λ m o k v h can level short. raw_holds m o n v (own_encoding m v) h can;
  only = λ m k v b h x.
      let e = raw_only n m v b h x in
      (e, subst (λ c. IsRaw m n v c) e x, omega arith);
}

-- the order that a mode asks of tags is asked wherever its encodings hold
tags_hold : (m o : BERMode) (ts : List Tag) → HoldsEncoding m o → AreInSetOrder m ts → AreInSetOrder o ts
tags_hold Ber o ts h x = absurd h
tags_hold Der Ber ts h x = tt
tags_hold Der Der ts h x = x
tags_hold Der Cer ts h x = absurd h
tags_hold Cer Ber ts h x = tt
tags_hold Cer Der ts h x = absurd h
tags_hold Cer Cer ts h x = x

-- tags that don't fall are in the order that any mode asks
any_tags : (m : BERMode) (ts : List Tag) → IsSorted tag_cmp ts → AreInSetOrder m ts
any_tags Ber ts x = tt
any_tags Der ts x = x
any_tags Cer ts x = x

canonical_tags : (m : BERMode) (ts : List Tag) → IsCanonicalMode m → AreInSetOrder m ts → IsSorted tag_cmp ts
canonical_tags Ber ts h x = absurd h
canonical_tags Der ts h x = x
canonical_tags Cer ts h x = x

-- raw elements whose tags are in order have one encoding as the elements of a SET
set_elements_have : (n : ℕ) → HasEncoding (λ m k vs c. SetElements m n vs c) (elements_encoding own_encoding) (elements_depth no_depth) (CanSet n)
set_elements_have n = record {
  in_bytes = λ m vs can short. (elements_have (raw_has n)).in_bytes m vs can.each short;
  holds = λ m o k vs h can level short. record {
    elements = record { pieces = map (own_encoding m) vs; each = each_encoding (raw_has n) m o k vs h can.each level short; joined = encodings_joined (own_encoding m) vs };
    order = tags_hold m o (map (λ (v : RawValue). v.tag) vs) h can.order;
  };
  only = λ m k vs c h p.
      let y = each_only (raw_has n) m k vs p.elements.pieces h p.elements.each in
      (p.elements.joined ∙ ap concat y.0 ∙ sym (encodings_joined (own_encoding m) vs), record { each = y.1; order = p.order }, y.2);
}

-- where parts don't fall, their tags don't
then_less : (a b x : Ordering) → is_lt (ordering_then a (ordering_then b x)) ≡ false → is_lt (ordering_then a b) ≡ false
then_less Less b x e = e
then_less Equal Less x e = e
then_less Equal Equal x e = refl
then_less Equal Greater x e = refl
then_less Greater b x e = refl

part_tags : (p q : SetPart) → is_lt (part_cmp p q) ≡ false → is_lt (tag_cmp p.tag q.tag) ≡ false
part_tags p q e =
    then_less (nat_cmp (class_number p.tag.tag_class) (class_number q.tag.tag_class)) (nat_cmp p.tag.tag_number q.tag.tag_number)
    (octets_cmp (if nat_lt p.tag.tag_number 31 then [] else drop 1 p.bytes) (if nat_lt q.tag.tag_number 31 then [] else drop 1 q.bytes)) e

-- parts don't fall where their tags don't, and the rest of two parts of equal tags doesn't
less_then : (a b x : Ordering) → is_lt (ordering_then a b) ≡ false → (a ≡ Equal → b ≡ Equal → is_lt x ≡ false) →
    is_lt (ordering_then a (ordering_then b x)) ≡ false
less_then Less b x e f = e
less_then Equal Less x e f = e
less_then Equal Equal x e f = f refl refl
less_then Equal Greater x e f = refl
less_then Greater b x e f = refl

-- what parts of one tag go by
abbrev rest : SetPart → List ℕ
rest p = if nat_lt p.tag.tag_number 31 then [] else drop 1 p.bytes

no_rest : (p : SetPart) → p.tag.tag_number < 31 → rest p ≡ []
no_rest p h = ap (λ b. if b then [] else drop 1 p.bytes) (lt-ltb p.tag.tag_number 31 h)

octets_self : (b : List ℕ) → is_lt (octets_cmp b b) ≡ false
octets_self b = same_side octets_cmp (ranks_by nat_list_cmp_total (λ (c : List ℕ). c)) b

same_rest : (p q : SetPart) → (p ≡ q) ⊎ (p.tag.tag_number < 31) → p.tag.tag_number ≡ q.tag.tag_number → is_lt (octets_cmp (rest p) (rest q)) ≡ false
same_rest p q (inl same) n = subst (λ r. is_lt (octets_cmp (rest p) (rest r)) ≡ false) same (octets_self (rest p))
same_rest p q (inr small) n = ap is_lt (ap₂ (λ a b. octets_cmp a b) (no_rest p small) (no_rest q (subst (λ k. k < 31) n small)))

tag_parts : (p q : SetPart) → is_lt (tag_cmp p.tag q.tag) ≡ false → (p.tag ≡ q.tag → (p ≡ q) ⊎ (p.tag.tag_number < 31)) → is_lt (part_cmp p q) ≡ false
tag_parts p q e one =
    less_then (nat_cmp (class_number p.tag.tag_class) (class_number q.tag.tag_class)) (nat_cmp p.tag.tag_number q.tag.tag_number)
    (octets_cmp (rest p) (rest q)) e
    (λ f g.
    let c = class_same p.tag.tag_class q.tag.tag_class (exact_unsigned (class_number p.tag.tag_class) (class_number q.tag.tag_class) f) in
    let n = exact_unsigned p.tag.tag_number q.tag.tag_number g in
    same_rest p q (one (ap₂ (λ d k. record { tag_class = d; tag_number = k }) c n)) n)

abbrev part_order : BERMode → RawValue → RawValue → Ordering
part_order m v w = part_cmp (raw_part m v) (raw_part m w)

part_weak : (m : BERMode) → IsStrictWeakOrder (λ v w. is_lt (part_order m v w))
part_weak m = ranks_by nat_list_cmp_total (λ (v : RawValue). part_key (raw_part m v))

abbrev tags : List RawValue → List Tag
tags vs = map (λ (v : RawValue). v.tag) vs

-- raw elements can be put in the order of parts
set_ordered : (n : ℕ) (m : BERMode) (vs : List RawValue) → AreRaw n m vs → CanSet n m (in_part_order m vs)
set_ordered n m vs all = record {
  each = all_order (part_order m) (part_weak m) (λ v. IsRaw m n v (own_encoding m v)) vs all;
  order = any_tags m (tags (in_part_order m vs)) (sorted_rises (λ t u. is_lt (tag_cmp t u)) (tags (in_part_order m vs))
      (rises_map (λ (v : RawValue). v.tag) (λ v w. is_lt (part_order m v w)) (λ t u. is_lt (tag_cmp t u))
      (λ v w. part_tags (raw_part m v) (raw_part m w)) (in_part_order m vs) (rises_order (part_order m) (part_weak m) vs)));
}

-- elements whose tags don't fall, and tell their order, are in that order
set_in_order : (m : BERMode) (vs : List RawValue) → IsSorted tag_cmp (tags vs) → TagsKeepOrder vs → in_part_order m vs ≡ vs
set_in_order m vs up fail = sym (in_order_is (part_order m) (part_weak m) vs vs sorted (λ x. refl))
  where
    sorted : IsSortedBy (λ v w. is_lt (part_order m v w)) vs
    sorted k d low h =
        let here = get_or-map (λ (v : RawValue). v.tag) vs k d in
        let next = get_or-map (λ (v : RawValue). v.tag) vs (k + 1) d in
        let count = length-map vs (λ (v : RawValue). v.tag) in
        let up_here = up k d.tag low (omega (arith, h, count)) in
        tag_parts (raw_part m (get_or vs (k + 1) d)) (raw_part m (get_or vs k d))
        (subst (λ t. is_lt (tag_cmp (get_or vs (k + 1) d).tag t) ≡ false) here
        (subst (λ t. is_lt (tag_cmp t (get_or (tags vs) k d.tag)) ≡ false) next up_here))
        (λ e. part_one (get_or vs (k + 1) d) (get_or vs k d)
        (fail (get_or vs (k + 1) d) (get_or vs k d) (Contains-get_or vs (k + 1) d h) (Contains-get_or vs k d (omega (arith, h))) e))
      where
        part_one : (v w : RawValue) → (v ≡ w) ⊎ (v.tag.tag_number < 31) → (raw_part m v ≡ raw_part m w) ⊎ (v.tag.tag_number < 31)
        part_one v w (inl same) = inl (ap (raw_part m) same)
        part_one v w (inr small) = inr small

parts_tagged : (n : ℕ) (m : BERMode) (vs : List RawValue) → AreRaw n m vs → AllByRecursion HasItsTag (map (raw_part m) vs)
parts_tagged n m [] all = tt
parts_tagged n m (v ∷ vs) all =
    let x = raw_begins n m v (own_encoding m v) all.0 in
    (record { in_range = x.in_range; begins = x.begins }, parts_tagged n m vs all.1)

part_encodings : (m : BERMode) (vs : List RawValue) → parts_bytes (map (raw_part m) vs) ≡ encodings own_encoding m vs
part_encodings m [] = refl
part_encodings m (v ∷ vs) = ap (λ bs. own_encoding m v ∷ bs) (part_encodings m vs)

same_part : (p q : SetPart) → p.tag ≡ q.tag → p.bytes ≡ q.bytes → p ≡ q
same_part p q e f = ap₂ (λ t b. record { tag = t; bytes = b }) e f

-- bytes that begin with identifiers are parts in one way
pub parts_once : (ps qs : List SetPart) → AllByRecursion HasItsTag ps → AllByRecursion HasItsTag qs → parts_bytes ps ≡ parts_bytes qs → ps ≡ qs
parts_once [] [] x y e = refl
parts_once [] (q ∷ qs) x y e = absurd (no_head q.bytes (parts_bytes qs) e)
parts_once (p ∷ ps) [] x y e = absurd (no_head p.bytes (parts_bytes ps) (sym e))
parts_once (p ∷ ps) (q ∷ qs) x y e =
    let b : p.bytes ≡ q.bytes = cc in
    let bs : parts_bytes ps ≡ parts_bytes qs = cc in
    let t = begins_once p.tag q.tag q.bytes (subst (λ c. BeginsWithTag p.tag c) b x.0.begins) y.0.begins in
    ap₂ (λ r rs. r ∷ rs) (same_part p q t b) (parts_once ps qs x.1 y.1 bs)

module _ (t : Tag) (range : t.tag_number < 2 ^ 64) (n : ℕ) where
  set_has : HasEncoding (Enclosed (λ m k vs c. SetElements m n vs c) t) (enclosed_encoding (elements_encoding own_encoding) t)
      (enclosed_depth (elements_depth no_depth)) (CanSet n)
  set_has = enclosed_has (set_elements_have n) t range

  set_made : (m : BERMode) (vs : List RawValue) → AreRaw n m vs → MakeElement SetContents m t (encodings own_encoding m vs) (set_encoding t m (in_part_order m vs))
  set_made m vs all =
      let joined : elements_encoding own_encoding m (in_part_order m vs) ≡ concat (parts_bytes (in_order part_cmp (map (raw_part m) vs))) =
      encodings_joined (own_encoding m) (in_part_order m vs) ∙
      ap concat (sym (part_encodings m (in_part_order m vs)) ∙ ap parts_bytes (in_order_map (raw_part m) part_cmp vs)) in
      record {
        contents = elements_encoding own_encoding m (in_part_order m vs);
        made = record { tagged = map (raw_part m) vs; tags = parts_tagged n m vs all; same = part_encodings m vs; joined = joined };
        unique = λ c x. x.joined ∙
            ap (λ ps. concat (parts_bytes (in_order part_cmp ps)))
            (parts_once x.tagged (map (raw_part m) vs) x.tags (parts_tagged n m vs all) (x.same ∙ sym (part_encodings m vs))) ∙ sym joined;
        around = refl;
      }

  set_only : (m : BERMode) (vs : List RawValue) (b : List ℕ) → IsCanonicalMode m → IsSet t m (suc n) vs b → (b ≡ set_encoding t m vs) × CanSet n m vs
  set_only m vs b h y = let one = set_has.only m (suc n) vs b h y in (one.0, one.1)

  set_unchanged : (m : BERMode) (vs : List RawValue) → IsCanonicalMode m → CanSet n m vs → TagsKeepOrder vs → in_part_order m vs ≡ vs
  set_unchanged m vs h can fail = set_in_order m vs (canonical_tags m (tags vs) h can.order) fail

  set_again : (m : BERMode) (vs : List RawValue) (b : List ℕ) → IsCanonicalMode m → IsSet t m (suc n) vs b → TagsKeepOrder vs →
      MakeElement SetContents m t (encodings own_encoding m vs) b
  set_again m vs b h y fail =
      let one = set_only m vs b h y in
      subst (λ c. MakeElement SetContents m t (encodings own_encoding m vs) c) (ap (set_encoding t m) (set_unchanged m vs h one.1 fail) ∙ sym one.0)
      (set_made m vs one.1.each)

  set_anyhow : (m : BERMode) (vs ws : List RawValue) (b : List ℕ) → IsCanonicalMode m → IsSet t m (suc n) vs b → TagsAreUnique vs → IsPermutation vs ws →
      MakeElement SetContents m t (encodings own_encoding m ws) b
  set_anyhow m vs ws b h y tags_unique p =
      let one = set_only m vs b h y in
      let order = sym (in_order_permuted (part_order m) (part_weak m) vs ws p (λ v w a c e.
      tags_unique v w a c (tag_of_key (raw_part m v) (raw_part m w) (octets_tie (part_key (raw_part m v)) (part_key (raw_part m w)) e)))) in
      subst (λ c. MakeElement SetContents m t (encodings own_encoding m ws) c)
      (ap (set_encoding t m) (order ∙ set_unchanged m vs h one.1 (λ v w a c e. inl (tags_unique v w a c e))) ∙ sym one.0)
      (set_made m ws (all_permuted (λ v. IsRaw m n v (own_encoding m v)) vs ws p one.1.each))

  -- a SET satisfies the laws of writing
  set_written : SetIsWritten t n
  set_written = record {
    holds = λ m o vs h can short. set_has.holds m o (suc (elements_depth no_depth m vs)) vs h can (omega arith) short;
    only = set_only;
    ordered = set_ordered n;
    made = λ m vs h all. set_made m vs all;
    again = set_again;
    anyhow = set_anyhow;
  }

-- under any tag
pub set_writing : SetKeepsWritingLaws
set_writing = λ t not_end range n. set_written t range n
