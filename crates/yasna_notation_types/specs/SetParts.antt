-- SET of parts: in any order in BER, in the order of their tags in DER and CER (X.690, 8.11, 9.3 and 10.3).
use Rattle.std.proofs.Common.{◌≡◌, ◌∷◌, ◌++◌, [], ◌+◌, ◌<◌, ◌≤◌, ◌&&◌, ℕ, zero, suc, List, Bool, true, false, not, Option, Some, None, inl, inr, length, refl, sym, ap, ap₂, subst, ◌∙◌, arith}
use Rattle.std.proofs.lemmas.Bool.{and_parts, not-true}
use Rattle.std.specs.List.{AllByRecursion, concat}
use Rattle.std.specs.List.Sorted.{IsSorted}
use Rattle.std.specs.Ordering.{is_lt}
use Rattle.std.specs.Prelude.{slice_index_or, ◌⊎◌}
use Rattle.yasna_base.specs.declared.mode.BERMode.{BERMode}
use Rattle.yasna_base.specs.declared.mode.BERMode.TheVariants.{Ber, Der, Cer}
use Rattle.yasna_base.specs.declared.tag.Tag.{Tag}
use Rattle.yasna_base.specs.Beginnings.{BeginsWithOne, BeginsBy, share_none}
use Rattle.yasna_base.specs.Canonical.{IsCanonicalMode, IsWritten}
use Rattle.yasna_base.specs.Choice.{AnyEither}
use Rattle.yasna_base.specs.Coding.{IsSame, IsCoding, IsContentsCoding, IsPrefixFree, Any}
use Rattle.yasna_base.specs.Default.{TakesDefault, DetectsDefault, DefaultOf}
use Rattle.yasna_base.specs.Exact.{Fitting, IsExact}
use Rattle.yasna_base.specs.Grammar.{Grammar, Members, Encoding, Depth}
use Rattle.yasna_base.specs.Identifier.{BeginsWithTag, StartsElement, nothing}
use Rattle.yasna_base.specs.Optional.{OptionOf, SameOption}
use Rattle.yasna_base.specs.Order.{tag_cmp}
use Rattle.yasna_base.specs.Pieces.{Each, Pieces}
use Rattle.yasna_base.specs.Raw.{RawValue, IsRaw}
use Rattle.yasna_base.specs.Sequence.{PartOf, NoParts, SamePart, SameNothing}
use Rattle.yasna_base.specs.Set.{AreInSetOrder}
use Rattle.yasna_base.proofs.Beginnings.{no_common_tag, are_unambiguous, either_by_tags}
use Rattle.yasna_base.proofs.Identifier.{begins_once}
use Rattle.yasna_base.proofs.Pieces.{pieces_once, pieces_end, no_prefix_at_end}
use Rattle.yasna_base.specs.Canonical.{enclosed_encoding, enclosed_depth}
use Rattle.yasna_base.specs.Element.{Enclosed, AnyEnclosed}
use Rattle.yasna_base.specs.Exact.{enclosed_fits}
use Rattle.yasna_base.specs.Identifier.{tag_or}
use Rattle.yasna_base.specs.Set.{set_tag}
use Rattle.yasna_base.proofs.Canonical.{enclosed_written}
use Rattle.yasna_base.proofs.Coding.{enclosed}
use Rattle.yasna_base.proofs.Exact.{enclosed_exact}
use Rattle.yasna_base.proofs.ExplicitTags.{enclosed_begins}
use Rattle.yasna_base.proofs.Identifier.{not_end}
use Rattle.yasna_notation.specs.Canonical.{element_written}
use Rattle.yasna_notation.specs.Elements.{AreSingleElements, AreJoined, enclosed_elements}
use Rattle.yasna_notation.specs.Laws.{element_lawful}
use Rattle.yasna_notation.specs.Notation.{IsNotation, NotationKeepsLaws, IsWrittenAs}
use Rattle.yasna_notation.specs.Parts.{AreParts}
use Rattle.yasna_notation_constraints.specs.OrDefault.{SameOrDefault, OrDefaultOf}
use Rattle.yasna_notation_constraints.specs.TestedDefaults.{IsOneValue, true_not_false}

-- which encodings, in some order, encode the parts of a value
abbrev pub Pieced : Type 0 → Type 1
Pieced V = BERMode → ℕ → V → List (List ℕ) → Type 0

-- R holds of one of the encodings, and Q of the others
pub record Picks (R : List ℕ → Type 0) (Q : List (List ℕ) → Type 0) (ps : List (List ℕ)) : Type 0 where
  pub before : List (List ℕ)
  pub one : List ℕ
  pub after : List (List ℕ)
  pub joined : ps ≡ before ++ (one ∷ after)
  pub here : R one
  pub more : Q (before ++ after)

-- one of them encodes a part, and P holds of the others
abbrev pub PickOf : {A V : Type 0} → Grammar A → Pieced V → Pieced (A × V)
PickOf B P m n v ps = Picks (B m n v.0) (P m n v.1) ps

-- there are no encodings
abbrev pub NoPick : Pieced (Unit {0})
NoPick m n v ps = ps ≡ []

-- one of them encodes a part, or the part is omitted
abbrev pub PickMaybe : {A : Type 0} → (A → List ℕ → Type 0) → (List (List ℕ) → Type 0) → Option A → List (List ℕ) → Type 0
PickMaybe R Q (Some v) ps = Picks (R v) Q ps
PickMaybe R Q None ps = Q ps

abbrev pub OptionPick : {A V : Type 0} → Grammar A → Pieced V → Pieced (Option A × V)
OptionPick B P m n v ps = PickMaybe (B m n) (P m n v.1) v.0 ps

-- an encoding that is there: in DER and CER it isn't that of the default
abbrev pub OmitsDefault : {A : Type 0} → (A → Bool) → Grammar A → Grammar A
OmitsDefault is B m n v b = B m n v b × (TakesDefault m ⊎ (is v ≡ false))

-- one of them encodes a part with a default, or the part is omitted and the value is the default
abbrev pub DefaultPick : {A V : Type 0} → (A → Bool) → Grammar A → Pieced V → Pieced (A × V)
DefaultPick is B P m n v ps = PickOf (OmitsDefault is B) P m n v ps ⊎ (P m n v.1 ps × (is v.0 ≡ true))

-- a part whose value is none for the default: none is an omitted part, and a value that is there is encoded as one with a default
abbrev pub PickUnless : {A V : Type 0} → (A → Bool) → Grammar A → Pieced V → BERMode → ℕ → Option A → V → List (List ℕ) → Type 0
PickUnless is B P m n (Some v) w ps = DefaultPick is B P m n (v, w) ps
PickUnless is B P m n None w ps = P m n w ps

abbrev pub OrDefaultPick : {A V : Type 0} → (A → Bool) → Grammar A → Pieced V → Pieced (Option A × V)
OrDefaultPick is B P m n v ps = PickUnless is B P m n v.0 v.1 ps

-- the tags with which they begin are in the order that the mode requires of a SET
pub record InTagOrder (m : BERMode) (ps : List (List ℕ)) : Type 0 where
  pub tags : List Tag
  pub each : Each BeginsWithTag tags ps
  pub order : AreInSetOrder m tags

-- contents that are the encodings of the parts, in an order that the mode allows
pub record SetOfParts {V : Type 0} (P : Pieced V) (m : BERMode) (n : ℕ) (v : V) (c : List ℕ) : Type 0 where
  pub pieces : List (List ℕ)
  pub parts : P m n v pieces
  pub order : InTagOrder m pieces
  pub joined : c ≡ concat pieces

-- a tag comes before each of the others
abbrev pub tag_precedes : Tag → List Tag → Bool
tag_precedes t [] = true
tag_precedes t (u ∷ us) = (is_lt (tag_cmp t u) && not (is_lt (tag_cmp u t))) && tag_precedes t us

-- each of some tags comes before each of the others
abbrev pub tags_precede : List Tag → List Tag → Bool
tags_precede [] us = true
tags_precede (t ∷ ts) us = tag_precedes t us && tags_precede ts us

-- no tag comes before the one that precedes it
abbrev pub Ascend : List Tag → Type 0
Ascend [] = Unit {0}
Ascend (t ∷ []) = Unit {0}
Ascend (t ∷ u ∷ ts) = (is_lt (tag_cmp u t) ≡ false) × Ascend (u ∷ ts)

pub sorted_ascend : (ts : List Tag) → IsSorted tag_cmp ts → Ascend ts
sorted_ascend [] h = tt
sorted_ascend (t ∷ []) h = tt
sorted_ascend (t ∷ u ∷ ts) h = (
  h 0 t (omega arith) (omega arith),
  sorted_ascend (u ∷ ts) (λ k d l p.
      let e : suc k + 1 ≡ suc (k + 1) = omega arith in
      let q : suc k + 1 < length (t ∷ u ∷ ts) = omega (arith, p) in
      subst (λ i. is_lt (tag_cmp (slice_index_or (t ∷ u ∷ ts) i d) (slice_index_or (t ∷ u ∷ ts) (suc k) d)) ≡ false) e (h (suc k) d (omega arith) q)),
)

pub ascend_sorted : (ts : List Tag) → Ascend ts → IsSorted tag_cmp ts
ascend_sorted [] h k d l p = absurd (omega (arith, p))
ascend_sorted (t ∷ []) h k d l p = absurd (omega (arith, p))
ascend_sorted (t ∷ u ∷ ts) h zero d l p = h.0
ascend_sorted (t ∷ u ∷ ts) h (suc k) d l p =
    let e : suc (k + 1) ≡ suc k + 1 = omega arith in
    let q : k + 1 < length (u ∷ ts) = omega (arith, p) in
    subst (λ i. is_lt (tag_cmp (slice_index_or (t ∷ u ∷ ts) i d) (slice_index_or (t ∷ u ∷ ts) (suc k) d)) ≡ false) e
    (ascend_sorted (u ∷ ts) h.1 k d (omega arith) q)

in_any_order : (m : BERMode) (ts : List Tag) → Ascend ts → AreInSetOrder m ts
in_any_order Ber ts h = tt
in_any_order Der ts h = ascend_sorted ts h
in_any_order Cer ts h = ascend_sorted ts h

canonical_order : (m : BERMode) (ts : List Tag) → IsCanonicalMode m → AreInSetOrder m ts → Ascend ts
canonical_order Ber ts c h = absurd c
canonical_order Der ts c h = sorted_ascend ts h
canonical_order Cer ts c h = sorted_ascend ts h

-- what holds of all holds of one among them, and of the others
pub all_others : {X : Type 0} (P : X → Type 0) (a : List X) (x : X) (b : List X) → AllByRecursion P (a ++ (x ∷ b)) → P x × AllByRecursion P (a ++ b)
all_others P [] x b h = (h.0, h.1)
all_others P (y ∷ a) x b h = let z = all_others P a x b h.1 in (z.0, (h.0, z.1))

pub all_with : {X : Type 0} (P : X → Type 0) (a : List X) (x : X) (b : List X) → P x → AllByRecursion P (a ++ b) → AllByRecursion P (a ++ (x ∷ b))
all_with P [] x b p h = (p, h)
all_with P (y ∷ a) x b p h = (h.0, all_with P a x b p h.1)

pub all_so : {X : Type 0} (P Q : X → Type 0) → ((x : X) → P x → Q x) → (xs : List X) → AllByRecursion P xs → AllByRecursion Q xs
all_so P Q f [] h = tt
all_so P Q f (x ∷ xs) h = (f x h.0, all_so P Q f xs h.1)

-- an item is picked in one way, if its property holds of no other
pub pick_once : {X : Type 0} (H : X → Type 0) (a c : List X) (x y : X) (b d : List X) → a ++ (x ∷ b) ≡ c ++ (y ∷ d) → H x →
    AllByRecursion (λ z. H z → ⊥) (c ++ d) → (a ≡ c) × (x ≡ y) × (b ≡ d)
pick_once H [] [] x y b d e h none = let f : x ≡ y = cc in let g : b ≡ d = cc in (refl, f, g)
pick_once H [] (z ∷ zs) x y b d e h none = let f : x ≡ z = cc in absurd (none.0 (subst H f h))
pick_once H (w ∷ ws) [] x y b d e h none =
    let f : ws ++ (x ∷ b) ≡ d = cc in
    absurd ((all_others (λ z. H z → ⊥) ws x b (subst (AllByRecursion (λ z. H z → ⊥)) (sym f) none)).0 h)
pick_once H (w ∷ ws) (z ∷ zs) x y b d e h none =
    let f : w ≡ z = cc in
    let g : ws ++ (x ∷ b) ≡ zs ++ (y ∷ d) = cc in
    let k = pick_once H ws zs x y b d g h none.1 in
    (ap₂ (λ i j. i ∷ j) f k.0, k.1, k.2)

-- the laws of parts of a SET. C: they are parts of a SEQUENCE; P: they are there in some order; M: the encodings of each
pub record AreSetParts {V : Type 0} (ts : List Tag) (E : V → V → Type 0) (C : Grammar V) (P : Pieced V) (M : Members) : Type 0 where
  pub within : (m : BERMode) (n : ℕ) (v : V) (ps : List (List ℕ)) → P m n v ps → AllByRecursion (M m n) ps
  pub begins : BeginsBy ts M
  pub opens : (m : BERMode) (n : ℕ) (b : List ℕ) → M m n b → StartsElement b
  pub prefix_free : IsPrefixFree M
  pub exact : (m : BERMode) (n k : ℕ) (v w : V) (ps : List (List ℕ)) → P m n v ps → P m k w ps → E v w
  pub deeper : (m : BERMode) (n k : ℕ) (v : V) (ps : List (List ℕ)) → n ≤ k → P m n v ps → P m k v ps
  -- parts that are there in some order are parts of a SEQUENCE
  pub listed : (m : BERMode) (n : ℕ) (v : V) (ps : List (List ℕ)) → P m n v ps → (c : List ℕ) × C m n v c
  -- parts of a SEQUENCE have ascending tags
  pub parted : (m : BERMode) (n : ℕ) (v : V) (c : List ℕ) → C m n v c →
      (ps : List (List ℕ)) × P m n v ps × (c ≡ concat ps) × ((us : List Tag) × Each BeginsWithTag us ps × Ascend us)
  -- parts with ascending tags are parts of a SEQUENCE
  pub ordered : (m : BERMode) (n : ℕ) (v : V) (ps : List (List ℕ)) (us : List Tag) → P m n v ps → Each BeginsWithTag us ps → Ascend us →
      C m n v (concat ps)
  -- each encoding is one element
  pub raw : (m : BERMode) (n : ℕ) (b : List ℕ) → M m n b → (v : RawValue) × IsRaw m n v b

abbrev pub NoMembers : Members
NoMembers m n b = ⊥

pub no_set_parts : AreSetParts [] SameNothing NoParts NoPick NoMembers
no_set_parts = record {
  within = λ m n v ps e. subst (AllByRecursion (NoMembers m n)) (sym e) tt;
  begins = record { at = λ m n b p. absurd p };
  opens = λ m n b p. absurd p;
  prefix_free = λ m n k b c r s p q e. absurd p;
  exact = λ m n k v w ps p q. tt;
  deeper = λ m n k v ps l p. p;
  listed = λ m n v ps p. ([], refl);
  parted = λ m n v c e. ([], refl, e, ([], tt, tt));
  ordered = λ m n v ps us p e a. ap concat p;
  raw = λ m n b p. absurd p;
}

-- the parts of a SET whose values represent those of others satisfy the laws
pub represented_set_parts : {U V : Type 0} {ts : List Tag} {E : V → V → Type 0} {C : Grammar V} {P : Pieced V} {M : Members} (f : U → V) →
    AreSetParts ts E C P M → AreSetParts ts (λ v w. E (f v) (f w)) (λ m n v c. C m n (f v) c) (λ m n v ps. P m n (f v) ps) M
represented_set_parts f x = record {
  within = λ m n v. x.within m n (f v);
  begins = x.begins;
  opens = x.opens;
  prefix_free = x.prefix_free;
  exact = λ m n k v w. x.exact m n k (f v) (f w);
  deeper = λ m n k v. x.deeper m n k (f v);
  listed = λ m n v. x.listed m n (f v);
  parted = λ m n v. x.parted m n (f v);
  ordered = λ m n v. x.ordered m n (f v);
  raw = x.raw;
}

-- a tag with which x begins comes after t
record After (t : Tag) (x : List ℕ) : Type 0 where
  after : (u : Tag) → BeginsWithTag u x → is_lt (tag_cmp t u) ≡ true
  not_before : (u : Tag) → BeginsWithTag u x → is_lt (tag_cmp u t) ≡ false

after_of : (t : Tag) (ts : List Tag) (x : List ℕ) → tag_precedes t ts ≡ true → BeginsWithOne ts x → After t x
after_of t [] x g b = absurd b
after_of t (w ∷ ws) x g (inl b) =
    let y = and_parts (is_lt (tag_cmp t w) && not (is_lt (tag_cmp w t))) (tag_precedes t ws) g in
    let z = and_parts (is_lt (tag_cmp t w)) (not (is_lt (tag_cmp w t))) y.0 in
    record {
      after = λ u c. subst (λ k. is_lt (tag_cmp t k) ≡ true) (begins_once w u x b c) z.0;
      not_before = λ u c. subst (λ k. is_lt (tag_cmp k t) ≡ false) (begins_once w u x b c) (not-true (is_lt (tag_cmp w t)) z.1);
    }
after_of t (w ∷ ws) x g (inr b) =
    after_of t ws x (and_parts (is_lt (tag_cmp t w) && not (is_lt (tag_cmp w t))) (tag_precedes t ws) g).1 b

-- a tag and tags that ascend ascend, if it comes before the first
ascend_first : (t : Tag) (us : List Tag) (ps : List (List ℕ)) → AllByRecursion (After t) ps → Each BeginsWithTag us ps → Ascend us → Ascend (t ∷ us)
ascend_first t [] ps h e a = tt
ascend_first t (u ∷ us) [] h e a = absurd e
ascend_first t (u ∷ us) (p ∷ ps) h e a = (h.0.not_before u e.0, a)

-- where tags ascend, none that comes after t is before it
none_before : (t : Tag) (us : List Tag) (z : List ℕ) (a : List (List ℕ)) (x : List ℕ) (b : List (List ℕ)) →
    Each BeginsWithTag us (z ∷ (a ++ (x ∷ b))) → BeginsWithTag t x → Ascend us → AllByRecursion (After t) (z ∷ a) → ⊥
none_before t [] z a x b e h asc all = absurd e
none_before t (w ∷ []) z [] x b e h asc all = absurd (e.1)
none_before t (w ∷ []) z (y ∷ a) x b e h asc all = absurd (e.1)
none_before t (w ∷ v ∷ us) z [] x b e h asc all =
    true_not_false (is_lt (tag_cmp t w)) (all.0.after w e.0) (subst (λ k. is_lt (tag_cmp k w) ≡ false) (begins_once v t x e.1.0 h) asc.0)
none_before t (w ∷ v ∷ us) z (y ∷ a) x b e h asc all = none_before t (v ∷ us) y a x b e.1 h asc.1 all.1

is_first : (t : Tag) (us : List Tag) (a : List (List ℕ)) (x : List ℕ) (b : List (List ℕ)) → Each BeginsWithTag us (a ++ (x ∷ b)) →
    BeginsWithTag t x → Ascend us → AllByRecursion (After t) a → a ≡ []
is_first t us [] x b e h asc all = refl
is_first t us (z ∷ a) x b e h asc all = absurd (none_before t us z a x b e h asc all)

-- the tags after the first
tags_after : (us : List Tag) (x : List ℕ) (b : List (List ℕ)) → Each BeginsWithTag us (x ∷ b) → Ascend us →
    (ws : List Tag) × Each BeginsWithTag ws b × Ascend ws
tags_after [] x b e a = absurd e
tags_after (u ∷ []) x b e a = ([], e.1, tt)
tags_after (u ∷ w ∷ us) x b e a = (w ∷ us, e.1, a.1)

all_prefix : {X : Type 0} (P : X → Type 0) (a b : List X) → AllByRecursion P (a ++ b) → AllByRecursion P a
all_prefix P [] b h = tt
all_prefix P (x ∷ a) b h = (h.0, all_prefix P a b h.1)

-- a tag with which x begins, and all of some others come after it
record Precedes (x : List ℕ) (ps : List (List ℕ)) : Type 0 where
  tag : Tag
  begins : BeginsWithTag tag x
  others : AllByRecursion (After tag) ps

precedes : (ts us : List Tag) (x : List ℕ) (ps : List (List ℕ)) → tags_precede ts us ≡ true → BeginsWithOne ts x → AllByRecursion (BeginsWithOne us) ps →
    Precedes x ps
precedes [] us x ps e b h = absurd b
precedes (t ∷ ts) us x ps e (inl b) h =
    let y = and_parts (tag_precedes t us) (tags_precede ts us) e in
    record { tag = t; begins = b; others = all_so (BeginsWithOne us) (After t) (λ z k. after_of t us z y.0 k) ps h }
precedes (t ∷ ts) us x ps e (inr b) h = precedes ts us x ps (and_parts (tag_precedes t us) (tags_precede ts us) e).1 b h

module _ {A V : Type 0} {ts us : List Tag} {E : A → A → Type 0} {F : V → V → Type 0} {B : Grammar A} {C : Grammar V} {S M : Members}
    {P : Pieced V} (x : IsCoding E B S) (begins : BeginsBy ts S) (whole : AreSingleElements S) (y : AreSetParts us F C P M)
    (above : tags_precede ts us ≡ true) (none : share_none ts us ≡ true) where
  pub tagged : (m : BERMode) (n : ℕ) (v : A) (b : List ℕ) → B m n v b → BeginsWithOne ts b
  tagged m n v b p = begins.at m n b (x.meaning.among m n v b p)

  -- no other has one of the tags, and all come after them
  pub others_without : (m : BERMode) (n : ℕ) (w : V) (ps : List (List ℕ)) → P m n w ps → AllByRecursion (λ z. BeginsWithOne ts z → ⊥) ps
  others_without m n w ps p =
      all_so (M m n) (λ z. BeginsWithOne ts z → ⊥) (λ z k h. no_common_tag ts us z none h (y.begins.at m n z k)) ps (y.within m n w ps p)

  all_after : (m : BERMode) (n : ℕ) (v : A) (w : V) (b : List ℕ) (ps : List (List ℕ)) → B m n v b → P m n w ps → Precedes b ps
  all_after m n v w b ps q p =
      precedes ts us b ps above (tagged m n v b q) (all_so (M m n) (BeginsWithOne us) (λ z k. y.begins.at m n z k) ps (y.within m n w ps p))

  part_within : (m : BERMode) (n : ℕ) (v : A × V) (ps : List (List ℕ)) → PickOf B P m n v ps → AllByRecursion (AnyEither S M m n) ps
  part_within m n v ps p =
      subst (AllByRecursion (AnyEither S M m n)) (sym p.joined)
      (all_with (AnyEither S M m n) p.before p.one p.after (inl (x.meaning.among m n v.0 p.one p.here))
      (all_so (M m n) (AnyEither S M m n) (λ z k. inr k) (p.before ++ p.after) (y.within m n v.1 (p.before ++ p.after) p.more)))

  part_opens : (m : BERMode) (n : ℕ) (b : List ℕ) → AnyEither S M m n b → StartsElement b
  part_opens m n b (inl p) = x.opens m n b p
  part_opens m n b (inr p) = y.opens m n b p

  part_prefix_free : (m : BERMode) (n k : ℕ) (b d r s : List ℕ) → AnyEither S M m n b → AnyEither S M m k d → b ++ r ≡ d ++ s → b ≡ d
  part_prefix_free m n k b d r s (inl p) (inl q) e = x.prefix_free m n k b d r s p q e
  part_prefix_free m n k b d r s (inl p) (inr q) e = absurd (are_unambiguous begins y.begins none m n k b d r s p q e)
  part_prefix_free m n k b d r s (inr p) (inl q) e = absurd (are_unambiguous begins y.begins none m k n d b s r q p (sym e))
  part_prefix_free m n k b d r s (inr p) (inr q) e = y.prefix_free m n k b d r s p q e

  part_raw : (m : BERMode) (n : ℕ) (b : List ℕ) → AnyEither S M m n b → (v : RawValue) × IsRaw m n v b
  part_raw m n b (inl p) = whole m n b p
  part_raw m n b (inr p) = y.raw m n b p

  part_exact : (m : BERMode) (n k : ℕ) (v w : A × V) (ps : List (List ℕ)) → PickOf B P m n v ps → PickOf B P m k w ps → SamePart E F v w
  part_exact m n k v w ps p q =
      let z = pick_once (BeginsWithOne ts) p.before q.before p.one q.one p.after q.after (sym p.joined ∙ q.joined)
      (tagged m n v.0 p.one p.here) (others_without m k w.1 (q.before ++ q.after) q.more) in (
        x.meaning.exact m n k v.0 w.0 q.one (subst (λ b. B m n v.0 b) z.1 p.here) q.here,
        y.exact m n k v.1 w.1 (q.before ++ q.after) (subst (λ qs. P m n v.1 qs) (ap₂ (λ i j. i ++ j) z.0 z.2) p.more) q.more,
      )

  part_deeper : (m : BERMode) (n k : ℕ) (v : A × V) (ps : List (List ℕ)) → n ≤ k → PickOf B P m n v ps → PickOf B P m k v ps
  part_deeper m n k v ps l p = record {
    before = p.before;
    one = p.one;
    after = p.after;
    joined = p.joined;
    here = x.meaning.deeper m n k v.0 p.one l p.here;
    more = y.deeper m n k v.1 (p.before ++ p.after) l p.more;
  }

  part_listed : (m : BERMode) (n : ℕ) (v : A × V) (ps : List (List ℕ)) → PickOf B P m n v ps → (d : List ℕ) × PartOf B C m n v d
  part_listed m n v ps p =
      let z = y.listed m n v.1 (p.before ++ p.after) p.more in
      (p.one ++ z.0, record { prefix = p.one; rest = z.0; joined = refl; here = p.here; more = z.1 })

  part_parted : (m : BERMode) (n : ℕ) (v : A × V) (d : List ℕ) → PartOf B C m n v d →
      (ps : List (List ℕ)) × PickOf B P m n v ps × (d ≡ concat ps) × ((ws : List Tag) × Each BeginsWithTag ws ps × Ascend ws)
  part_parted m n v d h =
      let z = y.parted m n v.1 h.rest h.more in
      let t = all_after m n v.0 v.1 h.prefix z.0 h.here z.1 in (
        h.prefix ∷ z.0,
        record { before = []; one = h.prefix; after = z.0; joined = refl; here = h.here; more = z.1 },
        h.joined ∙ ap (λ r. h.prefix ++ r) z.2,
        (
          t.tag ∷ z.3.0,
          (t.begins, z.3.1),
          ascend_first t.tag z.3.0 z.0 t.others z.3.1 z.3.2,
        ),
      )

  part_ordered : (m : BERMode) (n : ℕ) (v : A × V) (ps : List (List ℕ)) (ws : List Tag) → PickOf B P m n v ps → Each BeginsWithTag ws ps → Ascend ws →
      PartOf B C m n v (concat ps)
  part_ordered m n v ps ws p e a =
      let each = subst (λ qs. Each BeginsWithTag ws qs) p.joined e in
      let t = all_after m n v.0 v.1 p.one (p.before ++ p.after) p.here p.more in
      let prefix = all_prefix (After t.tag) p.before p.after t.others in
      let nothing = is_first t.tag ws p.before p.one p.after each t.begins a prefix in
      let rest = tags_after ws p.one p.after (subst (λ qs. Each BeginsWithTag ws (qs ++ (p.one ∷ p.after))) nothing each) a in
      record {
        prefix = p.one;
        rest = concat p.after;
        joined = ap concat (p.joined ∙ ap (λ qs. qs ++ (p.one ∷ p.after)) nothing);
        here = p.here;
        more = y.ordered m n v.1 p.after rest.0 (subst (λ qs. P m n v.1 (qs ++ p.after)) nothing p.more) rest.1 rest.2;
      }

  -- a part that is there
  pub part_keeps : AreSetParts (ts ++ us) (SamePart E F) (PartOf B C) (PickOf B P) (AnyEither S M)
  part_keeps = record {
    within = part_within;
    begins = either_by_tags begins y.begins;
    opens = part_opens;
    prefix_free = part_prefix_free;
    exact = part_exact;
    deeper = part_deeper;
    listed = part_listed;
    parted = part_parted;
    ordered = part_ordered;
    raw = part_raw;
  }

  maybe_within : (m : BERMode) (n : ℕ) (v : Option A) (w : V) (ps : List (List ℕ)) → PickMaybe (B m n) (P m n w) v ps → AllByRecursion (AnyEither S M m n) ps
  maybe_within m n (Some v) w ps p = part_within m n (v, w) ps p
  maybe_within m n None w ps p = all_so (M m n) (AnyEither S M m n) (λ z k. inr k) ps (y.within m n w ps p)

  -- encodings with the part aren't those of the others only
  not_omitted : (m : BERMode) (n k : ℕ) (v : A) (w u : V) (ps : List (List ℕ)) → Picks (B m n v) (P m n w) ps → P m k u ps → ⊥
  not_omitted m n k v w u ps p q =
      (all_others (λ z. BeginsWithOne ts z → ⊥) p.before p.one p.after
      (subst (AllByRecursion (λ z. BeginsWithOne ts z → ⊥)) p.joined (others_without m k u ps q))).0 (tagged m n v p.one p.here)

  maybe_exact : (m : BERMode) (n k : ℕ) (v w : Option A) (i j : V) (ps : List (List ℕ)) → PickMaybe (B m n) (P m n i) v ps →
      PickMaybe (B m k) (P m k j) w ps → SameOption E v w × F i j
  maybe_exact m n k (Some v) (Some w) i j ps p q = part_exact m n k (v, i) (w, j) ps p q
  maybe_exact m n k (Some v) None i j ps p q = absurd (not_omitted m n k v i j ps p q)
  maybe_exact m n k None (Some w) i j ps p q = absurd (not_omitted m k n w j i ps q p)
  maybe_exact m n k None None i j ps p q = (tt, y.exact m n k i j ps p q)

  maybe_deeper : (m : BERMode) (n k : ℕ) (v : Option A) (w : V) (ps : List (List ℕ)) → n ≤ k → PickMaybe (B m n) (P m n w) v ps →
      PickMaybe (B m k) (P m k w) v ps
  maybe_deeper m n k (Some v) w ps l p = part_deeper m n k (v, w) ps l p
  maybe_deeper m n k None w ps l p = y.deeper m n k w ps l p

  maybe_listed : (m : BERMode) (n : ℕ) (v : Option A) (w : V) (ps : List (List ℕ)) → PickMaybe (B m n) (P m n w) v ps →
      (d : List ℕ) × PartOf (OptionOf B) C m n (v, w) d
  maybe_listed m n (Some v) w ps p = part_listed m n (v, w) ps p
  maybe_listed m n None w ps p =
      let z = y.listed m n w ps p in
      (z.0, record { prefix = []; rest = z.0; joined = refl; here = refl; more = z.1 })

  maybe_parted : (m : BERMode) (n : ℕ) (v : Option A) (w : V) (d : List ℕ) → PartOf (OptionOf B) C m n (v, w) d →
      (ps : List (List ℕ)) × PickMaybe (B m n) (P m n w) v ps × (d ≡ concat ps) × ((ws : List Tag) × Each BeginsWithTag ws ps × Ascend ws)
  maybe_parted m n (Some v) w d h = part_parted m n (v, w) d h
  maybe_parted m n None w d h =
      let z = y.parted m n w h.rest h.more in
      (z.0, z.1, h.joined ∙ ap (λ i. i ++ h.rest) h.here ∙ z.2, z.3)

  maybe_ordered : (m : BERMode) (n : ℕ) (v : Option A) (w : V) (ps : List (List ℕ)) (ws : List Tag) → PickMaybe (B m n) (P m n w) v ps →
      Each BeginsWithTag ws ps → Ascend ws → PartOf (OptionOf B) C m n (v, w) (concat ps)
  maybe_ordered m n (Some v) w ps ws p e a = part_ordered m n (v, w) ps ws p e a
  maybe_ordered m n None w ps ws p e a = record { prefix = []; rest = concat ps; joined = refl; here = refl; more = y.ordered m n w ps ws p e a }

  -- a part that may be omitted
  pub option_keeps : AreSetParts (ts ++ us) (SamePart (SameOption E) F) (PartOf (OptionOf B) C) (OptionPick B P) (AnyEither S M)
  option_keeps = record {
    within = λ m n v. maybe_within m n v.0 v.1;
    begins = either_by_tags begins y.begins;
    opens = part_opens;
    prefix_free = part_prefix_free;
    exact = λ m n k v w. maybe_exact m n k v.0 w.0 v.1 w.1;
    deeper = λ m n k v. maybe_deeper m n k v.0 v.1;
    listed = λ m n v. maybe_listed m n v.0 v.1;
    parted = λ m n v. maybe_parted m n v.0 v.1;
    ordered = λ m n v. maybe_ordered m n v.0 v.1;
    raw = part_raw;
  }

-- an encoding that is there is an encoding
abbrev pub omits_default : {A : Type 0} {E : A → A → Type 0} {B : Grammar A} {S : Members} (is : A → Bool) → IsCoding E B S → IsCoding E (OmitsDefault is B) S
omits_default is x = record {
  meaning = record {
    equal = x.meaning.equal;
    among = λ m n v b p. x.meaning.among m n v b p.0;
    exact = λ m n k v w b p q. x.meaning.exact m n k v w b p.0 q.0;
    deeper = λ m n k v b l p. (x.meaning.deeper m n k v b l p.0, p.1);
  };
  opens = x.opens;
  prefix_free = x.prefix_free;
}

module _ {A V : Type 0} {ts us : List Tag} {E : A → A → Type 0} {F : V → V → Type 0} {B : Grammar A} {C : Grammar V} {S M : Members}
    {P : Pieced V} (is : A → Bool) (both : (v w : A) → is v ≡ true → is w ≡ true → E v w) (x : IsCoding E B S) (begins : BeginsBy ts S)
    (whole : AreSingleElements S) (y : AreSetParts us F C P M) (above : tags_precede ts us ≡ true) (none : share_none ts us ≡ true) where
  abbrev z : IsCoding E (OmitsDefault is B) S
  z = omits_default is x

  default_within : (m : BERMode) (n : ℕ) (v : A × V) (ps : List (List ℕ)) → DefaultPick is B P m n v ps → AllByRecursion (AnyEither S M m n) ps
  default_within m n v ps (inl p) = part_within z begins whole y above none m n v ps p
  default_within m n v ps (inr p) = all_so (M m n) (AnyEither S M m n) (λ i k. inr k) ps (y.within m n v.1 ps p.0)

  default_exact : (m : BERMode) (n k : ℕ) (v w : A × V) (ps : List (List ℕ)) → DefaultPick is B P m n v ps → DefaultPick is B P m k w ps → SamePart E F v w
  default_exact m n k v w ps (inl p) (inl q) = part_exact z begins whole y above none m n k v w ps p q
  default_exact m n k v w ps (inl p) (inr q) = absurd (not_omitted z begins whole y above none m n k v.0 v.1 w.1 ps p q.0)
  default_exact m n k v w ps (inr p) (inl q) = absurd (not_omitted z begins whole y above none m k n w.0 w.1 v.1 ps q p.0)
  default_exact m n k v w ps (inr p) (inr q) = (both v.0 w.0 p.1 q.1, y.exact m n k v.1 w.1 ps p.0 q.0)

  default_deeper : (m : BERMode) (n k : ℕ) (v : A × V) (ps : List (List ℕ)) → n ≤ k → DefaultPick is B P m n v ps → DefaultPick is B P m k v ps
  default_deeper m n k v ps l (inl p) = inl (part_deeper z begins whole y above none m n k v ps l p)
  default_deeper m n k v ps l (inr p) = inr (y.deeper m n k v.1 ps l p.0, p.1)

  default_listed : (m : BERMode) (n : ℕ) (v : A × V) (ps : List (List ℕ)) → DefaultPick is B P m n v ps → (c : List ℕ) × PartOf (DefaultOf is B) C m n v c
  default_listed m n v ps (inl p) =
      let k = part_listed z begins whole y above none m n v ps p in
      (k.0, record { prefix = k.1.prefix; rest = k.1.rest; joined = k.1.joined; here = inl k.1.here; more = k.1.more })
  default_listed m n v ps (inr p) =
      let k = y.listed m n v.1 ps p.0 in
      (k.0, record { prefix = []; rest = k.0; joined = refl; here = inr (refl, p.1); more = k.1 })

  by_prefix : (m : BERMode) (n : ℕ) (v : A × V) (c prefix rest : List ℕ) → c ≡ prefix ++ rest → DefaultOf is B m n v.0 prefix → C m n v.1 rest →
      (ps : List (List ℕ)) × DefaultPick is B P m n v ps × (c ≡ concat ps) × ((ws : List Tag) × Each BeginsWithTag ws ps × Ascend ws)
  by_prefix m n v c prefix rest j (inl p) more =
      let k = part_parted z begins whole y above none m n v c (record { prefix = prefix; rest = rest; joined = j; here = p; more = more }) in
      (k.0, inl k.1, k.2, k.3)
  by_prefix m n v c prefix rest j (inr p) more =
      let k = y.parted m n v.1 rest more in
      (k.0, inr (k.1, p.1), j ∙ ap (λ i. i ++ rest) p.0 ∙ k.2, k.3)

  default_ordered : (m : BERMode) (n : ℕ) (v : A × V) (ps : List (List ℕ)) (ws : List Tag) → DefaultPick is B P m n v ps → Each BeginsWithTag ws ps →
      Ascend ws → PartOf (DefaultOf is B) C m n v (concat ps)
  default_ordered m n v ps ws (inl p) e a =
      let k = part_ordered z begins whole y above none m n v ps ws p e a in
      record { prefix = k.prefix; rest = k.rest; joined = k.joined; here = inl k.here; more = k.more }
  default_ordered m n v ps ws (inr p) e a =
      record { prefix = []; rest = concat ps; joined = refl; here = inr (refl, p.1); more = y.ordered m n v.1 ps ws p.0 e a }

  -- a part with a default
  pub default_keeps : AreSetParts (ts ++ us) (SamePart E F) (PartOf (DefaultOf is B) C) (DefaultPick is B P) (AnyEither S M)
  default_keeps = record {
    within = default_within;
    begins = either_by_tags begins y.begins;
    opens = part_opens x begins whole y above none;
    prefix_free = part_prefix_free x begins whole y above none;
    exact = default_exact;
    deeper = default_deeper;
    listed = default_listed;
    parted = λ m n v c p. by_prefix m n v c p.prefix p.rest p.joined p.here p.more;
    ordered = default_ordered;
    raw = part_raw x begins whole y above none;
  }

  or_within : (m : BERMode) (n : ℕ) (v : Option A) (w : V) (ps : List (List ℕ)) → PickUnless is B P m n v w ps → AllByRecursion (AnyEither S M m n) ps
  or_within m n (Some v) w ps p = default_within m n (v, w) ps p
  or_within m n None w ps p = all_so (M m n) (AnyEither S M m n) (λ i k. inr k) ps (y.within m n w ps p)

  or_exact : (m : BERMode) (n k : ℕ) (v w : Option A) (i j : V) (ps : List (List ℕ)) → PickUnless is B P m n v i ps → PickUnless is B P m k w j ps →
      SameOrDefault is E v w × F i j
  or_exact m n k (Some v) (Some w) i j ps p q = default_exact m n k (v, i) (w, j) ps p q
  or_exact m n k (Some v) None i j ps (inl p) q = absurd (not_omitted z begins whole y above none m n k v i j ps p q)
  or_exact m n k (Some v) None i j ps (inr p) q = (p.1, y.exact m n k i j ps p.0 q)
  or_exact m n k None (Some w) i j ps p (inl q) = absurd (not_omitted z begins whole y above none m k n w j i ps q p)
  or_exact m n k None (Some w) i j ps p (inr q) = (q.1, y.exact m n k i j ps p q.0)
  or_exact m n k None None i j ps p q = (tt, y.exact m n k i j ps p q)

  or_deeper : (m : BERMode) (n k : ℕ) (v : Option A) (w : V) (ps : List (List ℕ)) → n ≤ k → PickUnless is B P m n v w ps → PickUnless is B P m k v w ps
  or_deeper m n k (Some v) w ps l p = default_deeper m n k (v, w) ps l p
  or_deeper m n k None w ps l p = y.deeper m n k w ps l p

  or_listed : (m : BERMode) (n : ℕ) (v : Option A) (w : V) (ps : List (List ℕ)) → PickUnless is B P m n v w ps →
      (c : List ℕ) × PartOf (OrDefaultOf is B) C m n (v, w) c
  or_listed m n (Some v) w ps p = default_listed m n (v, w) ps p
  or_listed m n None w ps p =
      let k = y.listed m n w ps p in
      (k.0, record { prefix = []; rest = k.0; joined = refl; here = refl; more = k.1 })

  or_parted : (m : BERMode) (n : ℕ) (v : Option A) (w : V) (c : List ℕ) → PartOf (OrDefaultOf is B) C m n (v, w) c →
      (ps : List (List ℕ)) × PickUnless is B P m n v w ps × (c ≡ concat ps) × ((ws : List Tag) × Each BeginsWithTag ws ps × Ascend ws)
  or_parted m n (Some v) w c h = by_prefix m n (v, w) c h.prefix h.rest h.joined h.here h.more
  or_parted m n None w c h =
      let k = y.parted m n w h.rest h.more in
      (k.0, k.1, h.joined ∙ ap (λ i. i ++ h.rest) h.here ∙ k.2, k.3)

  or_ordered : (m : BERMode) (n : ℕ) (v : Option A) (w : V) (ps : List (List ℕ)) (ws : List Tag) → PickUnless is B P m n v w ps →
      Each BeginsWithTag ws ps → Ascend ws → PartOf (OrDefaultOf is B) C m n (v, w) (concat ps)
  or_ordered m n (Some v) w ps ws p e a = default_ordered m n (v, w) ps ws p e a
  or_ordered m n None w ps ws p e a = record { prefix = []; rest = concat ps; joined = refl; here = refl; more = y.ordered m n w ps ws p e a }

  -- a part whose value is none for the default
  pub or_default_keeps : AreSetParts (ts ++ us) (SamePart (SameOrDefault is E) F) (PartOf (OrDefaultOf is B) C) (OrDefaultPick is B P) (AnyEither S M)
  or_default_keeps = record {
    within = λ m n v. or_within m n v.0 v.1;
    begins = either_by_tags begins y.begins;
    opens = part_opens x begins whole y above none;
    prefix_free = part_prefix_free x begins whole y above none;
    exact = λ m n k v w. or_exact m n k v.0 w.0 v.1 w.1;
    deeper = λ m n k v. or_deeper m n k v.0 v.1;
    listed = λ m n v. or_listed m n v.0 v.1;
    parted = λ m n v. or_parted m n v.0 v.1;
    ordered = λ m n v. or_ordered m n v.0 v.1;
    raw = part_raw x begins whole y above none;
  }

-- two values that are the default are equal
both_default : {A : Type 0} {E : A → A → Type 0} (is : A → Bool) (d : A) → DetectsDefault E is d → IsSame E → (v w : A) → is v ≡ true → is w ≡ true → E v w
both_default is d detects equal v w p q = equal.transitive v d w ((detects v).0 p) (equal.symmetric w d ((detects w).0 q))

module _ {A V : Type 0} {ts us : List Tag} {E : A → A → Type 0} {F : V → V → Type 0} {B : Grammar A} {C : Grammar V} {S M : Members}
    {P : Pieced V} {f : Encoding A} {G : Fitting A} {c : A → Type 0} (x : IsNotation true ts E B S f G c) (y : AreSetParts us F C P M)
    (above : tags_precede ts us ≡ true) (none : share_none ts us ≡ true) where
  -- a part that is there
  pub set_part : AreSetParts (ts ++ us) (SamePart E F) (PartOf B C) (PickOf B P) (AnyEither S M)
  set_part = part_keeps x.coding (x.begins refl) x.single y above none

  -- a part that may be omitted
  pub set_option : AreSetParts (ts ++ us) (SamePart (SameOption E) F) (PartOf (OptionOf B) C) (OptionPick B P) (AnyEither S M)
  set_option = option_keeps x.coding (x.begins refl) x.single y above none

  -- a part with a default
  pub set_default : (is : A → Bool) (d : A) → DetectsDefault E is d →
      AreSetParts (ts ++ us) (SamePart E F) (PartOf (DefaultOf is B) C) (DefaultPick is B P) (AnyEither S M)
  set_default is d detects = default_keeps is (both_default is d detects x.coding.meaning.equal) x.coding (x.begins refl) x.single y above none

-- a part with a default: `set_default` with the default first
pub set_with_default : {A V : Type 0} {ts us : List Tag} {E : A → A → Type 0} {F : V → V → Type 0} {B : Grammar A} {C : Grammar V} {S M : Members}
    {P : Pieced V} {f : Encoding A} {G : Fitting A} {c : A → Type 0} (is : A → Bool) (d : A) → DetectsDefault E is d → IsNotation true ts E B S f G c →
    AreSetParts us F C P M → tags_precede ts us ≡ true → share_none ts us ≡ true →
    AreSetParts (ts ++ us) (SamePart E F) (PartOf (DefaultOf is B) C) (DefaultPick is B P) (AnyEither S M)
set_with_default is d detects x y above none = set_default x y above none is d detects

-- a part whose value is none for the default
pub set_or_default : {A V : Type 0} {ts us : List Tag} {E : A → A → Type 0} {F : V → V → Type 0} {B : Grammar A} {C : Grammar V} {S M : Members}
    {P : Pieced V} {f : Encoding A} {G : Fitting A} {c : A → Type 0} (is : A → Bool) → IsOneValue E is → IsNotation true ts E B S f G c →
    AreSetParts us F C P M → tags_precede ts us ≡ true → share_none ts us ≡ true →
    AreSetParts (ts ++ us) (SamePart (SameOrDefault is E) F) (PartOf (OrDefaultOf is B) C) (OrDefaultPick is B P) (AnyEither S M)
set_or_default is one x y above none =
    or_default_keeps is (λ v w p q. (one w q v).0 p) x.coding (x.begins refl) x.single y above none

-- encodings, one after the other
pub members_each : (S : List ℕ → Type 0) (ps : List (List ℕ)) → AllByRecursion S ps → (us : List (Unit {0})) × Each (λ u. S) us ps
members_each S [] h = ([], tt)
members_each S (p ∷ ps) h = let z = members_each S ps h.1 in (tt ∷ z.0, (h.0, z.1))

abbrev members_pieces : (S : List ℕ → Type 0) (ps : List (List ℕ)) (c : List ℕ) → AllByRecursion S ps → c ≡ concat ps →
    (us : List (Unit {0})) × Pieces (λ u. S) us c
members_pieces S ps c h e = let z = members_each S ps h in (z.0, record { pieces = ps; each = z.1; joined = e })

module _ {V : Type 0} {ts : List Tag} {E : V → V → Type 0} {C : Grammar V} {P : Pieced V} {M : Members} (y : AreSetParts ts E C P M) where
  set_pieces : (m : BERMode) (n : ℕ) (v : V) (c : List ℕ) (p : SetOfParts P m n v c) → (us : List (Unit {0})) × Pieces (λ u. M m n) us c
  set_pieces m n v c p = members_pieces (M m n) p.pieces c (y.within m n v p.pieces p.parts) p.joined

  -- contents are the encodings of parts in one way
  pub pieces_same : (m : BERMode) (n k : ℕ) (ps qs : List (List ℕ)) (c : List ℕ) → AllByRecursion (M m n) ps → AllByRecursion (M m k) qs →
      c ≡ concat ps → c ≡ concat qs → ps ≡ qs
  pieces_same m n k ps qs c h i e f =
      let p = members_pieces (M m n) ps c h e in
      let q = members_pieces (M m k) qs c i f in
      (pieces_once (λ u w b d r s g l. y.prefix_free m n k b d r s g l) p.0 q.0 c c [] [] p.1 q.1
      (no_prefix_at_end (λ u d l. y.opens m k d l) [] (nothing refl)) (no_prefix_at_end (λ u d l. y.opens m n d l) [] (nothing refl)) refl).0

  -- the law of reading a SET of parts
  pub set_contents : IsSame E → IsContentsCoding E (SetOfParts P) (Any (SetOfParts P))
  set_contents equal = record {
    meaning = record {
      equal = equal;
      among = λ m n v c p. (v, p);
      exact = λ m n k v w c p q.
          let same = pieces_same m n k p.pieces q.pieces c (y.within m n v p.pieces p.parts) (y.within m k w q.pieces q.parts) p.joined q.joined in
          y.exact m n k v w q.pieces (subst (λ ps. P m n v ps) same p.parts) q.parts;
      deeper = λ m n k v c l p.
          record { pieces = p.pieces; parts = y.deeper m n k v p.pieces l p.parts; order = p.order; joined = p.joined };
    };
    ends = λ m n k b c r s i j p q e.
        let f = set_pieces m n p.0 b p.1 in
        let g = set_pieces m k q.0 c q.1 in
        pieces_end (λ u w d z a o h l. y.prefix_free m n k d z a o h l) (λ u d l. y.opens m n d l) (λ u d l. y.opens m k d l) f.0 g.0 b c r s f.1 g.1 i j e;
  }

  -- the law of a canonical mode: a SET is there as a SEQUENCE of its parts
  pub set_exact : {encoding : Encoding V} {Fits : Fitting V} {Can : V → Type 0} → IsExact E C encoding Fits Can → IsExact E (SetOfParts P) encoding Fits Can
  set_exact {encoding = encoding} x = record {
    in_bytes = x.in_bytes;
    holds = λ m o n v h f short.
        let z = y.parted o n v (encoding m v) (x.holds m o n v h f short) in
        record { pieces = z.0; parts = z.1; order = record { tags = z.3.0; each = z.3.1; order = in_any_order o z.3.0 z.3.2 }; joined = z.2 };
    only = λ m n v c h p. x.only m n v c h (subst (λ d. C m n v d) (sym p.joined)
        (y.ordered m n v p.pieces p.order.tags p.parts p.order.each (canonical_order m p.order.tags h p.order.order)));
    can = x.can;
    same = x.same;
  }

  -- the law of writing
  pub set_written : {encoding : Encoding V} {depth : Depth V} {Can : V → Type 0} → IsWritten E C encoding depth Can → IsWritten E (SetOfParts P) encoding depth Can
  set_written {encoding = encoding} x = record {
    has = record {
      in_bytes = x.has.in_bytes;
      holds = λ m o n v h can level short.
          let z = y.parted o n v (encoding m v) (x.has.holds m o n v h can level short) in
          record { pieces = z.0; parts = z.1; order = record { tags = z.3.0; each = z.3.1; order = in_any_order o z.3.0 z.3.2 }; joined = z.2 };
      only = λ m n v c h p. x.has.only m n v c h (subst (λ d. C m n v d) (sym p.joined)
          (y.ordered m n v p.pieces p.order.tags p.parts p.order.each (canonical_order m p.order.tags h p.order.order)));
    };
    any = λ n v c p. let z = y.listed Ber n v p.pieces p.parts in x.any n v z.0 z.1;
    same = x.same;
  }

-- what the test of the tags of a SET says
pub record SetKnown (above none a b : Bool) : Type 0 where
  pub after : above ≡ true
  pub none_shared : none ≡ true
  pub first_unambiguous : a ≡ true
  pub others_unambiguous : b ≡ true

pub set_known : (above none a b : Bool) → above && (none && (a && b)) ≡ true → SetKnown above none a b
set_known above none a b e =
    let u = and_parts above (none && (a && b)) e in
    let w = and_parts none (a && b) u.1 in
    let z = and_parts a b w.1 in
    record { after = u.0; none_shared = w.0; first_unambiguous = z.0; others_unambiguous = z.1 }

-- the laws of a type whose tags are known
pub known_by_tags : {A : Type 0} {tags_known : Bool} {ts : List Tag} {E : A → A → Type 0} {B : Grammar A} {S : Members} {f : Encoding A} {G : Fitting A}
    {c : A → Type 0} → tags_known ≡ true → IsNotation tags_known ts E B S f G c → IsNotation true ts E B S f G c
known_by_tags is x = record { coding = x.coding; begins = λ _. x.begins is; single = x.single; exact = x.exact }

module _ {A V : Type 0} {tags_known : Bool} {ts us : List Tag} {E : A → A → Type 0} {F : V → V → Type 0} {B : Grammar A}
    {C : Grammar V} {S M : Members} {P : Pieced V} {f : Encoding A} {G : Fitting A} {c : A → Type 0} {a b : Bool} (is_known : tags_known ≡ true)
    (first : a ≡ true → IsNotation tags_known ts E B S f G c) (rest : b ≡ true → AreSetParts us F C P M)
    (unambiguous : tags_precede ts us && (share_none ts us && (a && b)) ≡ true) where
  abbrev known : SetKnown (tags_precede ts us) (share_none ts us) a b
  known = set_known (tags_precede ts us) (share_none ts us) a b unambiguous

  pub set_part_laws : AreSetParts (ts ++ us) (SamePart E F) (PartOf B C) (PickOf B P) (AnyEither S M)
  set_part_laws =
      set_part (known_by_tags is_known (first known.first_unambiguous)) (rest known.others_unambiguous) known.after known.none_shared

  pub set_option_laws : AreSetParts (ts ++ us) (SamePart (SameOption E) F) (PartOf (OptionOf B) C) (OptionPick B P) (AnyEither S M)
  set_option_laws =
      set_option (known_by_tags is_known (first known.first_unambiguous)) (rest known.others_unambiguous) known.after known.none_shared

  pub set_default_laws : (is : A → Bool) (d : A) → DetectsDefault E is d →
      AreSetParts (ts ++ us) (SamePart E F) (PartOf (DefaultOf is B) C) (DefaultPick is B P) (AnyEither S M)
  set_default_laws =
      set_default (known_by_tags is_known (first known.first_unambiguous)) (rest known.others_unambiguous) known.after known.none_shared

  pub set_or_default_laws : (is : A → Bool) → IsOneValue E is →
      AreSetParts (ts ++ us) (SamePart (SameOrDefault is E) F) (PartOf (OrDefaultOf is B) C) (OrDefaultPick is B P) (AnyEither S M)
  set_or_default_laws is one =
      set_or_default is one (known_by_tags is_known (first known.first_unambiguous)) (rest known.others_unambiguous) known.after known.none_shared

-- the contents of a SET of parts are elements
set_joined : {V : Type 0} {ts : List Tag} {E : V → V → Type 0} {C : Grammar V} {P : Pieced V} {M : Members} → AreSetParts ts E C P M → AreJoined (Any (SetOfParts P))
set_joined {M = M} y m n c p =
    let w = all_raw p.1.pieces (y.within m n p.0 p.1.pieces p.1.parts) in
    (w.0, record { pieces = p.1.pieces; each = w.1; joined = p.1.joined })
  where
    all_raw : (ps : List (List ℕ)) → AllByRecursion (M m n) ps → (vs : List RawValue) × Each (IsRaw m n) vs ps
    all_raw [] h = ([], tt)
    all_raw (b ∷ bs) h = let v = y.raw m n b h.0 in let vs = all_raw bs h.1 in (v.0 ∷ vs.0, (v.1, vs.1))

-- the laws of a SET of parts, under any tag
pub set_lawful : {V : Type 0} {tags_known : Bool} {us ts : List Tag} {E : V → V → Type 0} {C : Grammar V} {Q : Members} {P : Pieced V} {M : Members}
    {encoding : Encoding V} {Fits : Fitting V} {Can : V → Type 0} → AreParts tags_known us E C Q encoding Fits Can → AreSetParts ts E C P M →
    NotationKeepsLaws true (set_tag ∷ []) true E (λ u. Enclosed (SetOfParts P) (tag_or u set_tag)) (λ u. AnyEnclosed (Any (SetOfParts P)) (tag_or u set_tag))
    (λ u. enclosed_encoding encoding (tag_or u set_tag)) (enclosed_fits Fits) Can
set_lawful {P = P} x y =
    element_lawful set_tag
    (λ t not_end range. (enclosed t not_end (set_contents y x.coding.meaning.equal), enclosed_exact t range (set_exact y x.exact)))
    (enclosed_begins (Any (SetOfParts P))) (enclosed_elements (Any (SetOfParts P)) (set_joined y)) (not_end 17 (λ e. omega arith)) (omega arith)

-- the law of writing of a SET of parts, under any tag
pub set_writes : {V : Type 0} {ts : List Tag} {E : V → V → Type 0} {C : Grammar V} {P : Pieced V} {M : Members}
    {encoding : Encoding V} {depth : Depth V} {Can : V → Type 0} → IsWritten E C encoding depth Can → AreSetParts ts E C P M →
    IsWrittenAs true E (λ u. Enclosed (SetOfParts P) (tag_or u set_tag)) (λ u. enclosed_encoding encoding (tag_or u set_tag)) (enclosed_depth depth) Can
set_writes x y =
    element_written set_tag (λ t _ range. enclosed_written t range (set_written y x)) (not_end 17 (λ e. omega arith)) (omega arith)

pub set_lawful_of : {V : Type 0} {tags_known : Bool} {us ts : List Tag} {E : V → V → Type 0} {C : Grammar V} {Q : Members} {P : Pieced V} {M : Members}
    {encoding : Encoding V} {Fits : Fitting V} {Can : V → Type 0} (a b : Bool) → (a ≡ true → AreParts tags_known us E C Q encoding Fits Can) →
    (b ≡ true → AreSetParts ts E C P M) → a && b ≡ true →
    NotationKeepsLaws true (set_tag ∷ []) true E (λ u. Enclosed (SetOfParts P) (tag_or u set_tag)) (λ u. AnyEnclosed (Any (SetOfParts P)) (tag_or u set_tag))
    (λ u. enclosed_encoding encoding (tag_or u set_tag)) (enclosed_fits Fits) Can
set_lawful_of a b x y e = let z = and_parts a b e in set_lawful (x z.0) (y z.1)

pub set_writes_of : {V : Type 0} {ts : List Tag} {E : V → V → Type 0} {C : Grammar V} {P : Pieced V} {M : Members}
    {encoding : Encoding V} {depth : Depth V} {Can : V → Type 0} (a b : Bool) → (a ≡ true → IsWritten E C encoding depth Can) → (b ≡ true → AreSetParts ts E C P M) →
    a && b ≡ true →
    IsWrittenAs true E (λ u. Enclosed (SetOfParts P) (tag_or u set_tag)) (λ u. enclosed_encoding encoding (tag_or u set_tag)) (enclosed_depth depth) Can
set_writes_of a b x y e = let z = and_parts a b e in set_writes (x z.0) (y z.1)
