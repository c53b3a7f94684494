-- The walk over raw elements: from each place of it the same ends and the same depth are found as from where it began.
use Rattle.std.proofs.Common.{◌≡◌, ◌↔◌, ◌⊎◌, inl, inr, ℕ, zero, suc, List, [], ◌∷◌, ◌++◌, refl, sym, ap, ◌∙◌, arith, subst, append-nil, append_assoc}
use Rattle.std.specs.List.{concat}
use Rattle.yasna_base.specs.declared.mode.BERMode.{BERMode}
use Rattle.yasna_base.specs.declared.tag.PCBit.{PCBit}
use Rattle.yasna_base.specs.declared.tag.Tag.{Tag}
use Rattle.yasna_base.specs.declared.error.ASN1ErrorKind.{ASN1ErrorKind}
use Rattle.yasna_base.specs.declared.error.ASN1ErrorKind.TheVariants.{StackOverflow}
use Rattle.yasna_base.specs.Element.{end_of_contents}
use Rattle.yasna_base.specs.Header.{ContentsEnd, definite_end, indefinite_end, OpensAt}
use Rattle.yasna_base.specs.Identifier.{end_tag, StartsElement}
use Rattle.yasna_base.specs.Pieces.{Each, Pieces}
use Rattle.yasna_base.specs.Raw.{RawValue, DescendsInto, DescendsUpTo, IsRaw, JoiningBefore, DeepRaw, IsDeepRaw, ContentsTo}
use Rattle.yasna_base.proofs.Header.{header_once}
use Rattle.yasna_base.proofs.Pieces.{starts_not_end}
use Rattle.yasna_base.proofs.Raw.{raw_zero, raw_of, raw_into, deep_at_zero, deep_zero_into, deep_of, deep_into, raw_element, raw_starts, opens_raw, RawAt, raw_ends, opens_starts, deep_starts}
use Rattle.yasna_bytes.specs.Header.{AnyBit, EndsBefore}
use Rattle.yasna_bytes.specs.Walk.{NoHeader, HasNoLevel, Passes, Enters, Stops, ClosesBefore, MeetsDeep}
use Rattle.yasna_bytes.proofs.Header.{element_header}
use Rattle.yasna_bytes.proofs.RawHeader.{starts_not_at_end, ends_at_end, opens_header, opens_range}

-- no element is before what is said
pub before_here : {R : RawValue → List ℕ → Type 0} {D : List ℕ → Type 0} (s : List ℕ) → D s → JoiningBefore R D s
before_here s d = record {
  values = [];
  prefix = [];
  rest = s;
  pieces = record { pieces = []; each = tt; joined = refl };
  more = tt;
  joined = refl;
  deep = d;
}

-- one more does
pub before_more : {R : RawValue → List ℕ → Type 0} {D : List ℕ → Type 0} (v : RawValue) (b s r : List ℕ) → R v b → s ≡ b ++ r → JoiningBefore R D r →
    JoiningBefore R D s
before_more v b s r x e y = record {
  values = v ∷ y.values;
  prefix = b ++ y.prefix;
  rest = y.rest;
  pieces = record { pieces = b ∷ y.pieces.pieces; each = (x, y.pieces.each); joined = ap (λ z. b ++ z) y.pieces.joined };
  more = tt;
  joined = e ∙ ap (λ z. b ++ z) y.joined ∙ sym (append_assoc b y.prefix y.rest);
  deep = y.deep;
}

-- either none does or one, and the others after it
pub data First (R : RawValue → List ℕ → Type 0) (D : List ℕ → Type 0) (s : List ℕ) : Type 0 where
  here : D s → First R D s
  further : (v : RawValue) (b r : List ℕ) → R v b → s ≡ b ++ r → JoiningBefore R D r → First R D s

each_first : {R : RawValue → List ℕ → Type 0} {D : List ℕ → Type 0} (vs : List RawValue) (bs : List (List ℕ)) (s r : List ℕ) → Each R vs bs →
    s ≡ concat bs ++ r → D r → First R D s
each_first {R} {D} [] [] s r p e d = here (subst D (sym e) d)
each_first [] (b ∷ bs) s r p e d = absurd p
each_first (v ∷ vs) [] s r p e d = absurd p
each_first (v ∷ vs) (b ∷ bs) s r p e d = further v b (concat bs ++ r) p.0 (e ∙ append_assoc b (concat bs) r) (record {
  values = vs;
  prefix = concat bs;
  rest = r;
  pieces = record { pieces = bs; each = p.1; joined = refl };
  more = tt;
  joined = refl;
  deep = d;
})

pub before_first : {R : RawValue → List ℕ → Type 0} {D : List ℕ → Type 0} (s : List ℕ) → JoiningBefore R D s → First R D s
before_first s x = each_first x.values x.pieces.pieces s x.rest x.pieces.each (x.joined ∙ ap (λ z. z ++ x.rest) x.pieces.joined) x.deep

-- one thing follows an end
pub ends_once : (e : ContentsEnd) (s r a : List ℕ) → EndsBefore e s r → EndsBefore e s a → r ≡ a
ends_once (definite_end z) s r a x y = x.1 ∙ sym y.1
ends_once indefinite_end s r a x y = let e = sym x ∙ y in cc

-- contents that are descended into end where the element does
pub closes_to : {R : RawValue → List ℕ → Type 0} (m : BERMode) (p : PCBit) (c : List ℕ) (e : ContentsEnd) (r : List ℕ) → DescendsUpTo m p e →
    ContentsTo R m p c e r → JoiningBefore R (λ q. EndsBefore e q r) c
closes_to m p c (definite_end z) r l w =
    let j = w.1 l in
    record { values = j.0; prefix = c; rest = []; pieces = j.1; more = tt; joined = sym (append-nil c); deep = (refl, w.0) }
closes_to m p c indefinite_end r l w =
    record { values = w.1.0; prefix = w.0; rest = 0 ∷ 0 ∷ r; pieces = w.1.1; more = tt; joined = w.2; deep = refl }

pub to_closes : {R : RawValue → List ℕ → Type 0} (m : BERMode) (p : PCBit) (c : List ℕ) (e : ContentsEnd) (r : List ℕ) →
    JoiningBefore R (λ q. EndsBefore e q r) c → ContentsTo R m p c e r
to_closes {R} m p c (definite_end z) r x =
    let f = x.joined ∙ ap (λ z. x.prefix ++ z) x.deep.0 ∙ append-nil x.prefix in
    (x.deep.1, λ _. (x.values, subst (λ z. Pieces R x.values z) (sym f) x.pieces))
to_closes m p c indefinite_end r x = (x.prefix, (x.values, x.pieces), x.joined ∙ ap (λ z. x.prefix ++ z) x.deep)

-- a header whose contents end before r begins some raw element that does
pub raw_within : {R : RawValue → List ℕ → Type 0} (m : BERMode) (t : Tag) (p : PCBit) (s c : List ℕ) (e : ContentsEnd) (r : List ℕ) → (t ≡ end_tag → ⊥) →
    OpensAt m t p s c e → ContentsTo R m p c e r → (v : RawValue) × RawAt R m v s r
raw_within m t p s c (definite_end z) r n x w = (record { tag = t; bit = p; payload = c }, raw_ends m t p s c (definite_end z) r c n x w refl)
raw_within m t p s c indefinite_end r n x w = (
  record { tag = t; bit = p; payload = w.0 ++ end_of_contents },
  raw_ends m t p s c indefinite_end r (w.0 ++ end_of_contents) n x w (w.2 ∙ sym (append_assoc w.0 end_of_contents r)),
)

-- a raw element within the levels is in front
more_raw : {P : List ℕ → Type 0} (m : BERMode) (n : ℕ) (v : RawValue) (s r : List ℕ) → RawAt (IsRaw m n) m v s r → JoiningBefore (IsRaw m (suc n)) P r →
    JoiningBefore (IsRaw m (suc n)) P s
more_raw m n v s r x y = before_more v x.bytes s r (raw_of n m v x.bytes x.raw) x.joined y

-- where a header is there, what is said holds there, or the contents end and it holds after elements from there on
data After (P : List ℕ → Type 0) (m : BERMode) (n : ℕ) (p : PCBit) (s c : List ℕ) (e : ContentsEnd) : Type 0 where
  at_once : P s → After P m n p s c e
  later : (r : List ℕ) → ContentsTo (IsRaw m n) m p c e r → JoiningBefore (IsRaw m (suc n)) P r → After P m n p s c e

first_after : {P : List ℕ → Type 0} (m : BERMode) (n : ℕ) (t : Tag) (p : PCBit) (s c : List ℕ) (e : ContentsEnd) → OpensAt m t p s c e →
    First (IsRaw m (suc n)) P s → After P m n p s c e
first_after m n t p s c e o (here d) = at_once d
first_after m n t p s c e o (further v b r x f y) = later r (opens_raw m t p s c e v b r o (raw_into n m v b x) f).inside y

-- contents don't end where an element is there
starts_no_end : (e : ContentsEnd) (s r : List ℕ) → StartsElement s → EndsBefore e s r → ⊥
starts_no_end e s r x y = starts_not_at_end s x (ends_at_end e s r y)

-- what is said after elements from a place on, where an element of one header is there that isn't descended into
module _ (m : BERMode) (n : ℕ) (s r : List ℕ) (x : Passes m (suc n) s r) where
  past : {P : List ℕ → Type 0} → (P s → ⊥) → After P m n x.bit s x.contents (definite_end r) → JoiningBefore (IsRaw m (suc n)) P r
  past not_here (at_once d) = absurd (not_here d)
  past {P} not_here (later q w y) = subst (λ z. JoiningBefore (IsRaw m (suc n)) P z) w.0 y

  passed : {P : List ℕ → Type 0} → (P s → ⊥) → JoiningBefore (IsRaw m (suc n)) P s ↔ JoiningBefore (IsRaw m (suc n)) P r
  passed not_here = (
    λ y. past not_here (first_after m n x.tag x.bit s x.contents (definite_end r) x.opened.opens (before_first s y)),
    λ y. let w = raw_within m x.tag x.bit s x.contents (definite_end r) r x.opened.not_end x.opened.opens (refl, λ l. absurd (x.closed l)) in
        more_raw m n w.0 s r w.1 y,
  )

  passed_starts : StartsElement s
  passed_starts = opens_starts m x.tag x.bit s x.contents (definite_end r) x.opened.not_end x.opened.opens

  pub passed_closes : (e : ContentsEnd) (a : List ℕ) → ClosesBefore (suc n) m e s a ↔ ClosesBefore (suc n) m e r a
  passed_closes e a = passed (starts_no_end e s a passed_starts)

  passed_not_deep : DeepRaw (IsRaw m n) (IsDeepRaw m n) m s → ⊥
  passed_not_deep y =
      let i = header_once m y.tag x.tag y.bit x.bit s y.contents x.contents y.end (definite_end r) y.opens x.opened.opens in
      x.closed (subst (λ p. DescendsInto m p) i.bit (subst (λ e. DescendsUpTo m y.bit e) i.end y.descends))

  pub passed_deep : MeetsDeep (suc n) m s ↔ MeetsDeep (suc n) m r
  passed_deep = passed (λ d. passed_not_deep (deep_into n m s d))

-- what is said after elements from a place on, where an element is descended into
module _ (m : BERMode) (n : ℕ) (s c : List ℕ) (f : ContentsEnd) (x : Enters m (suc n) s c f) where
  enter : {P : List ℕ → Type 0} → After P m n x.bit s c f → P s ⊎ ((r : List ℕ) × ClosesBefore n m f c r × JoiningBefore (IsRaw m (suc n)) P r)
  enter (at_once d) = inl d
  enter (later r w y) = inr (r, closes_to m x.bit c f r x.descends w, y)

  pub entered : {P : List ℕ → Type 0} → JoiningBefore (IsRaw m (suc n)) P s →
      P s ⊎ ((r : List ℕ) × ClosesBefore n m f c r × JoiningBefore (IsRaw m (suc n)) P r)
  entered y = enter (first_after m n x.tag x.bit s c f x.opened.opens (before_first s y))

  pub entered_more : {P : List ℕ → Type 0} (r : List ℕ) → ClosesBefore n m f c r → JoiningBefore (IsRaw m (suc n)) P r → JoiningBefore (IsRaw m (suc n)) P s
  entered_more r w y =
      let v = raw_within m x.tag x.bit s c f r x.opened.not_end x.opened.opens (to_closes m x.bit c f r w) in
      more_raw m n v.0 s r v.1 y

  pub entered_not_end : (e : ContentsEnd) (a : List ℕ) → EndsBefore e s a → ⊥
  entered_not_end e a = starts_no_end e s a (opens_starts m x.tag x.bit s c f x.opened.not_end x.opened.opens)

  pub entered_deep : IsDeepRaw m (suc n) s → MeetsDeep n m c
  entered_deep d =
      let y = deep_into n m s d in
      let i = header_once m y.tag x.tag y.bit x.bit s y.contents c y.end f y.opens x.opened.opens in
      subst (λ z. MeetsDeep n m z) i.contents y.inside

  pub deep_entered : MeetsDeep n m c → IsDeepRaw m (suc n) s
  deep_entered d = deep_of n m s
      (record { tag = x.tag; bit = x.bit; not_end = x.opened.not_end; contents = c; end = f; opens = x.opened.opens; descends = x.descends; inside = d })

-- contents end at once
pub left_closes : (m : BERMode) (n : ℕ) (e : ContentsEnd) (s r a : List ℕ) → EndsBefore e s r → First (IsRaw m n) (λ q. EndsBefore e q a) s → a ≡ r
left_closes m n e s r a x (here y) = ends_once e s a r y x
left_closes m n e s r a x (further v b q p f y) = absurd (starts_not_end b q s (raw_starts n m v b p) (ends_at_end e s r x) f)

pub left_deep : (m : BERMode) (n : ℕ) (e : ContentsEnd) (s r : List ℕ) → EndsBefore e s r → First (IsRaw m n) (IsDeepRaw m n) s → ⊥
left_deep m n e s r x (here d) = starts_no_end e s r (deep_starts n m s d) x
left_deep m n e s r x (further v b q p f y) = starts_not_end b q s (raw_starts n m v b p) (ends_at_end e s r x) f

-- no element is where no header is
pub no_raw : (m : BERMode) (n : ℕ) (s : List ℕ) → NoHeader m n s → (v : RawValue) (b r : List ℕ) → IsRaw m n v b → s ≡ b ++ r → ⊥
no_raw m zero s none v b r p f = raw_zero m v b p
no_raw m (suc n) s none v b r p f =
    let o = raw_into n m v b p in
    let i = raw_element v b o in
    none v.tag o.in_range o.not_end (element_header AnyBit m (suc n) v.tag v.bit i.contents b s r (omega arith) tt i.element f)

no_header : {P : List ℕ → Type 0} (m : BERMode) (n : ℕ) (s : List ℕ) → NoHeader m n s → (P s → ⊥) → First (IsRaw m n) P s → ⊥
no_header m n s none not_here (here d) = not_here d
no_header m n s none not_here (further v b r p f y) = no_raw m n s none v b r p f

pub deep_no_header : (m : BERMode) (n : ℕ) (s : List ℕ) → NoHeader m n s → IsDeepRaw m n s → HasNoLevel n s
deep_no_header m zero s none d = (refl, deep_zero_into m s d)
deep_no_header m (suc n) s none d =
    let y = deep_into n m s d in
    let x = opens_starts m y.tag y.bit s y.contents y.end y.not_end y.opens in
    absurd (none y.tag (opens_range m y.tag y.bit s y.contents y.end y.opens) y.not_end
    (opens_header m (suc n) y.tag y.bit s y.contents y.end (omega arith) y.opens))

pub level_deep : (m : BERMode) (n : ℕ) (s : List ℕ) → HasNoLevel n s → IsDeepRaw m n s
level_deep m n s x = subst (λ k. IsDeepRaw m k s) (sym x.0) (deep_at_zero m s x.1)

-- contents don't close where a walk stops
pub closed_stops : (m : BERMode) (n : ℕ) (e : ContentsEnd) (s : List ℕ) (k : ASN1ErrorKind) → Stops m n e s k → (a : List ℕ) → ClosesBefore n m e s a → ⊥
closed_stops m n e s k x a y = no_header m n s x.none (x.no_end a) (before_first s y)

-- a walk stops by the depth limit only where no level is left for an element
pub stops_deep : (m : BERMode) (n : ℕ) (e : ContentsEnd) (s : List ℕ) (k : ASN1ErrorKind) → Stops m n e s k → k ≡ StackOverflow → IsDeepRaw m n s
stops_deep m n e s k x f = level_deep m n s (x.deep.0 f)

deep_first : (m : BERMode) (n : ℕ) (s : List ℕ) → NoHeader m n s → First (IsRaw m n) (IsDeepRaw m n) s → HasNoLevel n s
deep_first m n s none (here d) = deep_no_header m n s none d
deep_first m n s none (further v b r p f y) = absurd (no_raw m n s none v b r p f)

pub deep_stops : (m : BERMode) (n : ℕ) (e : ContentsEnd) (s : List ℕ) (k : ASN1ErrorKind) → Stops m n e s k → MeetsDeep n m s → k ≡ StackOverflow
deep_stops m n e s k x y = x.deep.1 (deep_first m n s x.none (before_first s y))
