-- The table of a walk: the ends of the elements that it is in, and what is found from a place in them.
use Rattle.std.proofs.Common.{◌≡◌, ◌↔◌, ◌⊎◌, inl, inr, ℕ, zero, suc, ◌+◌, ◌-◌, ◌<◌, ◌≤◌, List, [], ◌∷◌, ◌++◌, length, length-append, length-take}
use Rattle.std.proofs.Common.{append_assoc, append-nil, take, drop, get_or, refl, sym, ap, set, add-one, ◌∙◌, arith, subst}
use Rattle.std.proofs.Math.Seq.{take-append_seam, drop-append_seam}
use Rattle.std.proofs.lemmas.List.{get_or-set_same, get_or-set_other}
use Rattle.yasna_base.specs.declared.mode.BERMode.{BERMode}
use Rattle.yasna_base.specs.declared.mode.BERMode.TheVariants.{Ber, Der, Cer}
use Rattle.yasna_base.specs.declared.error.ASN1ErrorKind.{ASN1ErrorKind}
use Rattle.yasna_base.specs.declared.error.ASN1ErrorKind.TheVariants.{StackOverflow}
use Rattle.yasna_base.specs.Header.{ContentsEnd, definite_end, indefinite_end, OpensAt}
use Rattle.yasna_base.specs.Element.{TakesIndefinite}
use Rattle.yasna_base.specs.Identifier.{identifier}
use Rattle.yasna_base.specs.Raw.{DescendsInto, DescendsUpTo}
use Rattle.yasna_base.specs.declared.tag.PCBit.{PCBit}
use Rattle.yasna_base.specs.declared.tag.Tag.{Tag}
use Rattle.yasna_base.proofs.Identifier.{identifier_some}
use Rattle.yasna_bytes.specs.Header.{EndsBefore, NoEnd}
use Rattle.yasna_bytes.specs.Walk.{Passes, Enters, EndsWithin, Stops, ClosesBefore, MeetsDeep, NotWalked, TakesEnd, IsWalked, following, follows}
use Rattle.yasna_bytes.proofs.WalkSteps.{before_here, before_first, left_closes, left_deep, passed_closes, passed_deep, entered, entered_more}
use Rattle.yasna_bytes.proofs.WalkSteps.{entered_not_end, entered_deep, deep_entered, closed_stops, deep_stops, stops_deep}

-- from s on the innermost elements end, one after the other, and a follows the outermost
abbrev pub AllClose : BERMode → List ContentsEnd → ℕ → List ℕ → List ℕ → Type 0
AllClose m [] n s a = s ≡ a
AllClose m (e ∷ es) n s a = (r : List ℕ) × ClosesBefore n m e s r × AllClose m es (suc n) r a

-- from s on an element is met that no level is left for, in the innermost or in one around it
abbrev pub AnyDeep : BERMode → List ContentsEnd → ℕ → List ℕ → Type 0
AnyDeep m [] n s = ⊥
AnyDeep m (e ∷ es) n s = MeetsDeep n m s ⊎ ((r : List ℕ) × ClosesBefore n m e s r × AnyDeep m es (suc n) r)

-- a walk finds the same from either place
pub record Same (m : BERMode) (es : List ContentsEnd) (n : ℕ) (s : List ℕ) (fs : List ContentsEnd) (k : ℕ) (r : List ℕ) : Type 0 where
  pub closes : (a : List ℕ) → AllClose m es n s a ↔ AllClose m fs k r a
  pub deep : AnyDeep m es n s ↔ AnyDeep m fs k r

pub same_start : (m : BERMode) (es : List ContentsEnd) (n : ℕ) (s : List ℕ) → Same m es n s es n s
same_start m es n s = record { closes = λ a. (λ x. x, λ x. x); deep = (λ x. x, λ x. x) }

pub same_then : (m : BERMode) (es fs gs : List ContentsEnd) (n k j : ℕ) (s r q : List ℕ) → Same m es n s fs k r → Same m fs k r gs j q →
    Same m es n s gs j q
same_then m es fs gs n k j s r q x y = record {
  closes = λ a. (λ z. (y.closes a).0 ((x.closes a).0 z), λ z. (x.closes a).1 ((y.closes a).1 z));
  deep = (λ z. y.deep.0 (x.deep.0 z), λ z. x.deep.1 (y.deep.1 z));
}

-- the innermost element ends
same_left : (m : BERMode) (e : ContentsEnd) (es : List ContentsEnd) (n : ℕ) (s r : List ℕ) → EndsBefore e s r → Same m (e ∷ es) n s es (suc n) r
same_left m e es n s r x = record {
  closes = λ a. (
    λ y. subst (λ z. AllClose m es (suc n) z a) (left_closes m n e s r y.0 x (before_first s y.1)) y.2,
    λ y. (r, before_here s x, y),
  );
  deep = (
    λ y. elim y [
      | inl d ↦ absurd (left_deep m n e s r x (before_first s d))
      | inr z ↦ subst (λ q. AnyDeep m es (suc n) q) (left_closes m n e s r z.0 x (before_first s z.1)) z.2
    ],
    λ y. inr (r, before_here s x, y),
  );
}

-- an element isn't descended into
same_passed : (m : BERMode) (e : ContentsEnd) (es : List ContentsEnd) (n : ℕ) (s r : List ℕ) → Passes m (suc n) s r →
    Same m (e ∷ es) (suc n) s (e ∷ es) (suc n) r
same_passed m e es n s r x = record {
  closes = λ a. (
    λ y. (y.0, (passed_closes m n s r x e y.0).0 y.1, y.2),
    λ y. (y.0, (passed_closes m n s r x e y.0).1 y.1, y.2),
  );
  deep = (
    λ y. elim y [
      | inl d ↦ inl ((passed_deep m n s r x).0 d)
      | inr z ↦ inr (z.0, (passed_closes m n s r x e z.0).0 z.1, z.2)
    ],
    λ y. elim y [
      | inl d ↦ inl ((passed_deep m n s r x).1 d)
      | inr z ↦ inr (z.0, (passed_closes m n s r x e z.0).1 z.1, z.2)
    ],
  );
}

-- an element is
module _ (m : BERMode) (e : ContentsEnd) (es : List ContentsEnd) (n : ℕ) (s c : List ℕ) (f : ContentsEnd) (x : Enters m (suc n) s c f) where
  close_within : (a : List ℕ) → AllClose m (e ∷ es) (suc n) s a → AllClose m (f ∷ (e ∷ es)) n c a
  close_within a y = elim (entered m n s c f x y.1) [
    | inl d ↦ absurd (entered_not_end m n s c f x e y.0 d)
    | inr z ↦ (z.0, z.1, (y.0, z.2, y.2))
  ]

  close_around : (a : List ℕ) → AllClose m (f ∷ (e ∷ es)) n c a → AllClose m (e ∷ es) (suc n) s a
  close_around a y = (y.2.0, entered_more m n s c f x y.0 y.1 y.2.1, y.2.2)

  any_deep_within : AnyDeep m (e ∷ es) (suc n) s → AnyDeep m (f ∷ (e ∷ es)) n c
  any_deep_within (inl d) = elim (entered m n s c f x d) [
    | inl y ↦ inl (entered_deep m n s c f x y)
    | inr z ↦ inr (z.0, z.1, inl z.2)
  ]
  any_deep_within (inr y) = elim (entered m n s c f x y.1) [
    | inl d ↦ absurd (entered_not_end m n s c f x e y.0 d)
    | inr z ↦ inr (z.0, z.1, inr (y.0, z.2, y.2))
  ]

  any_deep_around : AnyDeep m (f ∷ (e ∷ es)) n c → AnyDeep m (e ∷ es) (suc n) s
  any_deep_around (inl d) = inl (before_here s (deep_entered m n s c f x d))
  any_deep_around (inr y) = elim y.2 [
    | inl d ↦ inl (entered_more m n s c f x y.0 y.1 d)
    | inr z ↦ inr (z.0, entered_more m n s c f x y.0 y.1 z.1, z.2)
  ]

  same_entered : Same m (e ∷ es) (suc n) s (f ∷ (e ∷ es)) n c
  same_entered = record { closes = λ a. (close_within a, close_around a); deep = (any_deep_within, any_deep_around) }

-- the walk stops: no element around ends
stopped_closes : (m : BERMode) (e : ContentsEnd) (es : List ContentsEnd) (n : ℕ) (s : List ℕ) (k : ASN1ErrorKind) → Stops m n e s k → (a : List ℕ) →
    AllClose m (e ∷ es) n s a → ⊥
stopped_closes m e es n s k x a y = closed_stops m n e s k x y.0 y.1

stopped_deep : (m : BERMode) (e : ContentsEnd) (es : List ContentsEnd) (n : ℕ) (s : List ℕ) (k : ASN1ErrorKind) → Stops m n e s k →
    k ≡ StackOverflow ↔ AnyDeep m (e ∷ es) n s
stopped_deep m e es n s k x = (
  λ f. inl (before_here s (stops_deep m n e s k x f)),
  λ y. elim y [
    | inl d ↦ deep_stops m n e s k x d
    | inr z ↦ absurd (closed_stops m n e s k x z.0 z.1)
  ],
)

less-one : (n : ℕ) → n ≡ suc n - 1
less-one n = omega arith

passed_any : (m : BERMode) (e : ContentsEnd) (es : List ContentsEnd) (n : ℕ) (s r : List ℕ) → Passes m n s r → Same m (e ∷ es) n s (e ∷ es) n r
passed_any m e es zero s r x = let l = x.opened.level in absurd (omega arith)
passed_any m e es (suc n) s r x = same_passed m e es n s r x

entered_any : (m : BERMode) (e : ContentsEnd) (es : List ContentsEnd) (n : ℕ) (s c : List ℕ) (f : ContentsEnd) → Enters m n s c f →
    Same m (e ∷ es) n s (f ∷ (e ∷ es)) (n - 1) c
entered_any m e es zero s c f x = let l = x.opened.level in absurd (omega arith)
entered_any m e es (suc n) s c f x = subst (λ k. Same m (e ∷ es) (suc n) s (f ∷ (e ∷ es)) k c) (less-one n) (same_entered m e es n s c f x)

-- nothing was walked to its end where the walk stops
stopped_all : (m : BERMode) (e : ContentsEnd) (n : ℕ) (s : List ℕ) (f : ContentsEnd) (fs : List ContentsEnd) (j : ℕ) (r : List ℕ) (k : ASN1ErrorKind) →
    Same m (e ∷ []) n s (f ∷ fs) j r → Stops m j f r k → NotWalked m n e s k
stopped_all m e n s f fs j r k x y = record {
  none = λ a c. stopped_closes m f fs j r k y a ((x.closes a).0 (a, c, refl));
  deep = (
    λ z. only_innermost (x.deep.1 ((stopped_deep m f fs j r k y).0 z)),
    λ d. (stopped_deep m f fs j r k y).1 (x.deep.0 (inl d)),
  );
  no_memory = y.no_memory;
}
  where
    only_innermost : MeetsDeep n m s ⊎ ((r : List ℕ) × ClosesBefore n m e s r × ⊥) → MeetsDeep n m s
    only_innermost (inl d) = d
    only_innermost (inr z) = absurd z.2

-- both are counted, or neither is
abbrev pub AreAlike : ContentsEnd → ContentsEnd → Type 0
AreAlike (definite_end a) (definite_end b) = Unit {0}
AreAlike (definite_end a) indefinite_end = ⊥
AreAlike indefinite_end (definite_end b) = ⊥
AreAlike indefinite_end indefinite_end = Unit {0}

alike : (e : ContentsEnd) → AreAlike e e
alike (definite_end a) = tt
alike indefinite_end = tt

alike_no_end : (e f : ContentsEnd) (s : List ℕ) → AreAlike e f → NoEnd e s → NoEnd f s
alike_no_end (definite_end a) (definite_end b) s x o r y = o a (y.0, refl)
alike_no_end (definite_end a) indefinite_end s x o r y = absurd x
alike_no_end indefinite_end (definite_end b) s x o r y = absurd x
alike_no_end indefinite_end indefinite_end s x o r y = o r y

-- a mode walks contents that end in one way
descends_not_taken : (m : BERMode) (p q : PCBit) → DescendsInto m p → TakesIndefinite m q → ⊥
descends_not_taken Ber p q x y = x
descends_not_taken Der p q x y = y
descends_not_taken Cer p q x y = absurd x

one_way : (m : BERMode) (p q : PCBit) (e f : ContentsEnd) → TakesEnd m p e → DescendsUpTo m p e → TakesEnd m q f → DescendsUpTo m q f → AreAlike e f
one_way m p q (definite_end a) (definite_end b) t x u y = tt
one_way m p q (definite_end a) indefinite_end t x u y = absurd (descends_not_taken m p q x u)
one_way m p q indefinite_end (definite_end b) t x u y = absurd (descends_not_taken m q p y t)
one_way m p q indefinite_end indefinite_end t x u y = tt

pub opens_taken : (m : BERMode) (t : Tag) (p : PCBit) (s c : List ℕ) (e : ContentsEnd) → OpensAt m t p s c e → TakesEnd m p e
opens_taken m t p s c (definite_end r) x = tt
opens_taken m t p s c indefinite_end x = x.taken

entered_alike : (m : BERMode) (n : ℕ) (e : ContentsEnd) (s c : List ℕ) (f : ContentsEnd) → IsWalked m e → Enters m n s c f → AreAlike e f
entered_alike m n e s c f w x = one_way m w.0 x.bit e f w.1 w.2 (opens_taken m x.tag x.bit s c f x.opened.opens) x.descends

-- where contents end, what is left and what follows them is what follows the element
ends_before : (e f : ContentsEnd) (s r : List ℕ) → AreAlike e f → EndsWithin e s r → EndsBefore f s (r ++ following f)
ends_before (definite_end a) (definite_end b) s r x y = (y.0, ap (λ z. z ++ b) y.1)
ends_before (definite_end a) indefinite_end s r x y = absurd x
ends_before indefinite_end (definite_end b) s r x y = absurd x
ends_before indefinite_end indefinite_end s r x y = y ∙ ap (λ z. 0 ∷ 0 ∷ z) (sym (append-nil r))

pub ends_outermost : (e : ContentsEnd) (s r : List ℕ) → EndsWithin e s r → EndsBefore e s (follows e r)
ends_outermost (definite_end z) s r x = (x.0, refl)
ends_outermost indefinite_end s r x = x

ends_prefix : (e : ContentsEnd) (s r : List ℕ) → EndsWithin e s r → (p : List ℕ) × (s ≡ p ++ r)
ends_prefix (definite_end a) s r x = ([], x.0 ∙ sym x.1)
ends_prefix indefinite_end s r x = (0 ∷ 0 ∷ [], x)

-- a header of a byte at least is before contents
opens_prefix : (m : BERMode) (t : Tag) (p : PCBit) (s c : List ℕ) (f : ContentsEnd) → OpensAt m t p s c f →
    (h : List ℕ) × (1 ≤ length h) × (s ≡ h ++ (c ++ following f))
opens_prefix m t p s c (definite_end r) x =
    let i = length-append (identifier t p) x.l in
    (identifier t p ++ x.l, omega (arith, identifier_some t p), x.joined ∙ sym (append_assoc (identifier t p) x.l (c ++ r)))
opens_prefix m t p s c indefinite_end x =
    let h = identifier t p ++ (128 ∷ []) in
    let i = length-append (identifier t p) (128 ∷ []) in (
      h,
      omega (arith, identifier_some t p),
      x.joined ∙ sym (append_assoc (identifier t p) (128 ∷ []) c) ∙ ap (λ z. h ++ z) (sym (append-nil c)),
    )

-- the first bytes and the last, by how many the last are
take_prefix : (s x y : List ℕ) (k : ℕ) → s ≡ x ++ y → length y ≡ k → take (length s - k) s ≡ x
take_prefix s x y k e f =
    let g = ap length e in
    let i = length-append x y in
    let j : length s - k ≡ length x = omega arith in
    ap (λ n. take n s) j ∙ ap (λ z. take (length x) z) e ∙ take-append_seam x y

drop_prefix : (s x y : List ℕ) (k : ℕ) → s ≡ x ++ y → length y ≡ k → drop (length s - k) s ≡ y
drop_prefix s x y k e f =
    let g = ap length e in
    let i = length-append x y in
    let j : length s - k ≡ length x = omega arith in
    ap (λ n. drop n s) j ∙ ap (λ z. drop (length x) z) e ∙ drop-append_seam x y

-- the element that ends by inner is the outermost one, which ends by e
pub record IsOutermost (e : ContentsEnd) (after : List ℕ) (inner : ContentsEnd) (around : List ContentsEnd) : Type 0 where
  pub same : inner ≡ e
  pub single : around ≡ []
  -- nothing follows its contents within the outermost one
  pub nothing : after ≡ []

-- the element that ends by inner, with k levels left in its contents, is in the next one around it, of which Encloses holds
pub record IsEnclosed (Encloses : List ℕ → ContentsEnd → List ContentsEnd → Type 0) (e : ContentsEnd) (table : List ℕ) (k : ℕ) (after : List ℕ)
    (inner : ContentsEnd) (around : List ContentsEnd) : Type 0 where
  pub alike : AreAlike e inner
  -- how the next one around it ends, and those around that one
  pub next : ContentsEnd
  pub further : List ContentsEnd
  pub ends : around ≡ next ∷ further
  -- what follows the next one's contents within the outermost one
  pub left : List ℕ
  -- after the element's contents are its end of contents, if it has one, and what is left in the next one
  pub follows : after ≡ following inner ++ left
  -- the table says, by the levels left in the element's contents, how many bytes follow the next one's
  pub counted : length left ≡ get_or table k 0
  pub outside : Encloses left next further

-- the innermost of depth + 1 elements ends by inner, those around it by around, and after follows its contents within the outermost
-- one, which ends by e; k levels are left in its contents
abbrev pub EnclosesContents : ContentsEnd → List ℕ → ℕ → ℕ → List ℕ → ContentsEnd → List ContentsEnd → Type 0
EnclosesContents e table k zero after inner around = IsOutermost e after inner around
EnclosesContents e table k (suc depth) after inner around =
    IsEnclosed (λ left next further. EnclosesContents e table (suc k) depth left next further) e table k after inner around

encloses_alike : (e : ContentsEnd) (table : List ℕ) (k d : ℕ) (r : List ℕ) (f : ContentsEnd) (fs : List ContentsEnd) → EnclosesContents e table k d r f fs →
    AreAlike e f
encloses_alike e table k zero r f fs x = subst (λ z. AreAlike e z) (sym x.same) (alike e)
encloses_alike e table k (suc d) r f fs x = x.alike

encloses_other : (e : ContentsEnd) (table : List ℕ) (i k d b : ℕ) (r : List ℕ) (f : ContentsEnd) (fs : List ContentsEnd) → i < k →
    EnclosesContents e table k d r f fs → EnclosesContents e (set table i b) k d r f fs
encloses_other e table i k zero b r f fs l x = x
encloses_other e table i k (suc d) b r f fs l x =
    let o = get_or-set_other table i k b 0 (λ z. omega (arith, z)) in
    record {
      alike = x.alike;
      next = x.next;
      further = x.further;
      ends = x.ends;
      left = x.left;
      follows = x.follows;
      counted = x.counted ∙ sym o;
      outside = encloses_other e table i (suc k) d b x.left x.next x.further (omega arith) x.outside;
    }

-- a place in a walk, of which r is left in the innermost element, and what follows that within the outermost
pub record Walking (m : BERMode) (e : ContentsEnd) (n : ℕ) (s : List ℕ) (table : List ℕ) (trailing k : ℕ) (r : List ℕ) : Type 0 where
  pub depth : ℕ
  pub deep : depth + k ≡ n
  pub before : List ℕ
  pub after : List ℕ
  pub inner : ContentsEnd
  pub around : List ContentsEnd
  pub joined : s ≡ before ++ (r ++ after)
  pub counts : length after ≡ trailing
  pub encloses : EnclosesContents e table k depth after inner around
  pub same : Same m (e ∷ []) n s (inner ∷ around) k r

pub walking_start : (m : BERMode) (e : ContentsEnd) (n : ℕ) (s : List ℕ) (table : List ℕ) → Walking m e n s table 0 n s
walking_start m e n s table = record {
  depth = 0;
  deep = omega arith;
  before = [];
  after = [];
  inner = e;
  around = [];
  joined = sym (append-nil s);
  counts = refl;
  encloses = record { same = refl; single = refl; nothing = refl };
  same = same_start m (e ∷ []) n s;
}

-- the outermost element has ended
walked : (m : BERMode) (e : ContentsEnd) (n k : ℕ) (s a : List ℕ) → Same m (e ∷ []) n s [] k a → ClosesBefore n m e s a
walked m e n k s a x = let y = (x.closes a).1 refl in subst (λ z. ClosesBefore n m e s z) y.2 y.1

less_is : (d : ℕ) → 1 ≤ d → d ≡ suc (d - 1)
less_is d l = omega arith

-- what a turn there keeps
module _ {m : BERMode} {e : ContentsEnd} {n : ℕ} {s : List ℕ} {table : List ℕ} {trailing k : ℕ} {r : List ℕ} (w : Walking m e n s table trailing k r) where
  joins : (p x : List ℕ) → r ≡ p ++ x → s ≡ (w.before ++ p) ++ (x ++ w.after)
  joins p x f =
      w.joined ∙ ap (λ z. w.before ++ (z ++ w.after)) f ∙ ap (λ z. w.before ++ z) (append_assoc p x w.after) ∙ sym (append_assoc w.before p (x ++ w.after))

  rest_counts : (x : List ℕ) → length (x ++ w.after) ≡ trailing + length x
  rest_counts x = let j = length-append x w.after in omega (arith, w.counts)

  rest_is : (p x : List ℕ) → r ≡ p ++ x → drop (length s - (trailing + length x)) s ≡ x ++ w.after
  rest_is p x f = drop_prefix s (w.before ++ p) (x ++ w.after) (trailing + length x) (joins p x f) (rest_counts x)

  module _ {o : BERMode} {j : ℕ} {h : List ℕ} (mode : o ≡ m) (levels : j ≡ k) (is : h ≡ r) where
    ends_in : (a : List ℕ) → EndsWithin e h a → EndsWithin e r a
    ends_in a x = subst (λ z. EndsWithin e z a) is x

    passes_in : (a : List ℕ) → Passes o j h a → Passes m k r a
    passes_in a x = subst (λ z. Passes m k z a) is (subst (λ i. Passes m i h a) levels (subst (λ p. Passes p j h a) mode x))

    enters_in : (c : List ℕ) (f : ContentsEnd) → Enters o j h c f → Enters m k r c f
    enters_in c f x = subst (λ z. Enters m k z c f) is (subst (λ i. Enters m i h c f) levels (subst (λ p. Enters p j h c f) mode x))

    pub left_fits : (a : List ℕ) → EndsWithin e h a → length a ≤ length r
    left_fits a x = let p = ends_prefix e r a (ends_in a x) in let i = length-append p.0 a in omega (arith, ap length p.1)

    pub passed_fits : (a : List ℕ) → Passes o j h a → length a < length r
    passed_fits a x =
        let y = passes_in a x in
        let p = opens_prefix m y.tag y.bit r y.contents (definite_end a) y.opened.opens in
        let i = length-append p.0 (y.contents ++ a) in
        let i' = length-append y.contents a in
        omega (arith, p.1, ap length p.2)

    pub entered_fits : (c : List ℕ) (f : ContentsEnd) → Enters o j h c f → length (following f) + length c < length r
    entered_fits c f x =
        let y = enters_in c f x in
        let p = opens_prefix m y.tag y.bit r c f y.opened.opens in
        let i = length-append p.0 (c ++ following f) in
        let i' = length-append c (following f) in
        omega (arith, p.1, ap length p.2)

    pub left_walked : (a : List ℕ) → k ≡ n → EndsBefore e h a → ClosesBefore n m e s a
    left_walked a z x =
        let i : w.depth ≡ 0 = omega (arith, w.deep, z) in
        let y = subst (λ d. EnclosesContents e table k d w.after w.inner w.around) i w.encloses in
        let b = subst (λ f. Same m (e ∷ []) n s (f ∷ w.around) k r) y.same w.same in
        let c = subst (λ fs. Same m (e ∷ []) n s (e ∷ fs) k r) y.single b in
        walked m e n (suc k) s a (same_then m (e ∷ []) (e ∷ []) [] n k (suc k) s r a c
        (same_left m e [] k r a (subst (λ i. EndsBefore e i a) is x)))

    -- the element around goes on after the innermost
    pub left_keeps : (a u q : List ℕ) → (k ≡ n → ⊥) → EndsWithin e h a → u ≡ drop (length s - (trailing + length a)) s →
        q ≡ take (length u - get_or table k 0) u →
        (get_or table k 0 ≤ length u) × Walking m e n s table (get_or table k 0) (k + 1) q
    left_keeps a u q l x f g =
        let p = ends_prefix e r a (ends_in a x) in
        let y = subst (λ d. EnclosesContents e table k d w.after w.inner w.around) (less_is w.depth (omega (arith, w.deep, l))) w.encloses in
        let o = y.next in
        let gs = y.further in
        let t = y.left in
        let v = a ++ following w.inner in
        let i : u ≡ v ++ t = f ∙ rest_is p.0 a p.1 ∙ ap (λ i. a ++ i) y.follows ∙ sym (append_assoc a (following w.inner) t) in
        let i' : q ≡ v = g ∙ take_prefix u v t (get_or table k 0) i y.counted in
        let b = subst (λ fs. Same m (e ∷ []) n s (w.inner ∷ fs) k r) y.ends w.same in
        let z : Walking m e n s table (get_or table k 0) (suc k) v = record {
          depth = w.depth - 1;
          deep = omega (arith, w.deep, l);
          before = w.before ++ p.0;
          after = t;
          inner = o;
          around = gs;
          joined = joins p.0 a p.1 ∙ ap (λ i. (w.before ++ p.0) ++ i) (sym (rest_is p.0 a p.1) ∙ sym f ∙ i);
          counts = y.counted;
          encloses = y.outside;
          same = same_then m (e ∷ []) (w.inner ∷ (o ∷ gs)) (o ∷ gs) n k (suc k) s r v b
              (same_left m w.inner (o ∷ gs) k r v (ends_before e w.inner r a y.alike (ends_in a x)));
        } in
        let c = length-append v t in
        let z' = subst (λ i. Walking m e n s table (get_or table k 0) i v) (sym (add-one k)) z in
        (omega (arith, ap length i, y.counted), subst (λ i. Walking m e n s table (get_or table k 0) (k + 1) i) (sym i') z')

    pub left_counts : (a u q : List ℕ) → (k ≡ n → ⊥) → EndsWithin e h a → u ≡ drop (length s - (trailing + length a)) s →
        q ≡ take (length u - get_or table k 0) u → length q + get_or table k 0 ≡ trailing + length a
    left_counts a u q l x f g =
        let p = ends_prefix e r a (ends_in a x) in
        let z = left_keeps a u q l x f g in
        let i = length-take (length u - get_or table k 0) u in
        omega (arith, ap length g, z.0, ap length (f ∙ rest_is p.0 a p.1), rest_counts a)

    pub passed_keeps : (a : List ℕ) → Passes o j h a → Walking m e n s table trailing k a
    passed_keeps a x =
        let y = passes_in a x in
        let p = opens_prefix m y.tag y.bit r y.contents (definite_end a) y.opened.opens in
        record {
          depth = w.depth;
          deep = w.deep;
          before = w.before ++ (p.0 ++ y.contents);
          after = w.after;
          inner = w.inner;
          around = w.around;
          joined = joins (p.0 ++ y.contents) a (p.2 ∙ sym (append_assoc p.0 y.contents a));
          counts = w.counts;
          encloses = w.encloses;
          same = same_then m (e ∷ []) (w.inner ∷ w.around) (w.inner ∷ w.around) n k k s r a w.same (passed_any m w.inner w.around k r a y);
        }

    pub entered_keeps : (c : List ℕ) (f : ContentsEnd) → IsWalked m e → n ≤ length table → Enters o j h c f →
        Walking m e n s (set table (k - 1) trailing) (trailing + length (following f)) (k - 1) c
    entered_keeps c f u l x =
        let y = enters_in c f x in
        let p = opens_prefix m y.tag y.bit r c f y.opened.opens in
        let i = length-append (following f) w.after in
        let v = set table (k - 1) trailing in
        let below : k - 1 < length table = omega (arith, y.opened.level, w.deep, l) in
        let up : k ≡ suc (k - 1) = omega (arith, y.opened.level) in
        let outside = encloses_other e table (k - 1) k w.depth trailing w.after w.inner w.around (omega (arith, y.opened.level)) w.encloses in
        let inside : EnclosesContents e v (k - 1) (suc w.depth) (following f ++ w.after) f (w.inner ∷ w.around) = record {
          alike = entered_alike m k e r c f u y;
          next = w.inner;
          further = w.around;
          ends = refl;
          left = w.after;
          follows = refl;
          counted = w.counts ∙ sym (get_or-set_same table (k - 1) trailing 0 below);
          outside = subst (λ i. EnclosesContents e v i w.depth w.after w.inner w.around) up outside;
        } in
        record {
          depth = suc w.depth;
          deep = omega (arith, w.deep, y.opened.level);
          before = w.before ++ p.0;
          after = following f ++ w.after;
          inner = f;
          around = w.inner ∷ w.around;
          joined = joins p.0 (c ++ following f) p.2 ∙ ap (λ i. (w.before ++ p.0) ++ i) (append_assoc c (following f) w.after);
          counts = omega (arith, w.counts);
          encloses = inside;
          same = same_then m (e ∷ []) (w.inner ∷ w.around) (f ∷ (w.inner ∷ w.around)) n k (k - 1) s r c w.same
              (entered_any m w.inner w.around k r c f y);
        }

    pub not_walked : (x : ASN1ErrorKind) → Stops o j e h x → NotWalked m n e s x
    not_walked x y =
        let z = subst (λ i. Stops m k e i x) is (subst (λ i. Stops m i e h x) levels (subst (λ p. Stops p j e h x) mode y)) in
        let u = encloses_alike e table k w.depth w.after w.inner w.around w.encloses in
        stopped_all m e n s w.inner w.around k r x w.same
        (record { no_end = alike_no_end e w.inner r u z.no_end; none = z.none; deep = z.deep; no_memory = z.no_memory })
