-- What reading a SET OF does whose callback decodes an element a turn (X.690, 8.12 and 11.6).
use Rattle.std.proofs.Common.{◌≡◌, ℕ, zero, suc, ◌+◌, List, [], ◌∷◌, ◌++◌, get_or, Option, Some, None, Result, Ok, Err, Bool, true, false, inl, inr, refl, sym, ap, ap₂, subst, ◌∙◌, append_assoc, append-nil, arith}
use Rattle.std.proofs.lemmas.Cmp.{nat_list_cmp_total}
use Rattle.std.proofs.lemmas.List.Folds.{concat-append}
use Rattle.std.proofs.lemmas.List.Sorted.{ranks_by}
use Rattle.std.specs.Global.{Global}
use Rattle.std.specs.List.{AllByRecursion, concat}
use Rattle.std.specs.List.Sorted.{IsSorted, IsSortedBy}
use Rattle.std.specs.Ordering.{is_lt}
use Rattle.std.specs.Prelude.{Vec}
use Rattle.yasna_base.specs.declared.error.ASN1Error.{ASN1Error}
use Rattle.yasna_base.specs.declared.mode.BERMode.{BERMode}
use Rattle.yasna_base.specs.declared.mode.BERMode.TheVariants.{Ber, Der, Cer}
use Rattle.yasna_base.specs.declared.tag.Tag.{Tag}
use Rattle.yasna_base.specs.AnyOrder.{InSomeOrder}
use Rattle.yasna_base.specs.Coding.{IsCoding}
use Rattle.yasna_base.specs.Element.{Enclosed}
use Rattle.yasna_base.specs.Grammar.{Grammar, Members}
use Rattle.yasna_base.specs.Identifier.{end_tag, AtEnd}
use Rattle.yasna_base.specs.Order.{octets_cmp}
use Rattle.yasna_base.specs.Pieces.{Each}
use Rattle.yasna_base.specs.SequenceOf.{ElementsOf, AnyElements}
use Rattle.yasna_base.specs.Set.{AreInSetOfOrder, SetOfElements, AnySetOfElements, IsSetOf, AnySetOf}
use Rattle.yasna_base.proofs.AnyOrder.{as_it_is}
use Rattle.yasna_base.proofs.Lists.{append_before}
use Rattle.yasna_base.proofs.Order.{Rises, rises_sorted}
use Rattle.yasna_base.proofs.Pieces.{NoPrefix, no_prefix_at_end, pieces_further, each_append}
use Rattle.yasna_reader.specs.declared.callback.Outcome.{Outcome}
use Rattle.yasna_reader.specs.declared.callback.Outcome.TheVariants.{Matched, NoMatch, Failed}
use Rattle.yasna_reader.specs.declared.set_of.Order.TheVariants.{Ascending}
use Rattle.yasna_reader.specs.Decodes.{Decodes, NotContents, DecodesContents}
use Rattle.yasna_reader.specs.Parse.{unless_failed}
use Rattle.yasna_reader.specs.Sequence.{ReadsParts}
use Rattle.yasna_reader.specs.SequenceOf.{ListTurn, Turns, EndsList, items_of}
use Rattle.yasna_reader.specs.SetOf.{Bounded, bound_in, goes_before, FallsBelow, Follows, Falls, failed, fell, TurnInOrder, CollectsInOrder}
use Rattle.yasna_reader.specs.State.{Reading, IsFresh, Does}
use Rattle.yasna_reader.proofs.ByTags.{IsDecoderByTags, parts_no_match}
use Rattle.yasna_reader.proofs.Callbacks.{place_unconsumed}
use Rattle.yasna_reader.proofs.Handed.{left_after}
use Rattle.yasna_reader.proofs.ListDecoding.{listed}
use Rattle.yasna_reader.proofs.Sequences.{element}
use Rattle.yasna_reader.proofs.Tuples.{IsDecoder, decodes_map, enclosed_seen}

-- pieces that follow each other from the bound a on, and leave the bound n
abbrev FollowAll : Option (List ℕ) → List (List ℕ) → Option (List ℕ) → Type 0
FollowAll a [] n = n ≡ a
FollowAll a (b ∷ bs) n = (k : Option (List ℕ)) × Follows a b k × FollowAll k bs n

abbrev below : List ℕ → List ℕ → Bool
below b a = is_lt (octets_cmp b a)

-- such pieces ascend
follow_sorted : (a : List ℕ) (bs : List (List ℕ)) (n : Option (List ℕ)) → FollowAll (Some a) bs n → IsSortedBy below (a ∷ bs)
follow_sorted a [] n f k d low h = absurd (omega (arith, h))
follow_sorted a (b ∷ bs) n f zero d low h = f.1.0
follow_sorted a (b ∷ bs) n f (suc k) d low h =
    let e : suc k + 1 ≡ suc (k + 1) = omega arith in
    let more = subst (λ u. FollowAll u bs n) f.1.1 f.2 in
    ap (λ i. below (get_or (a ∷ b ∷ bs) i d) (get_or (b ∷ bs) k d)) e ∙ follow_sorted b bs n more k d (omega arith) (omega (arith, h))

after_bound : (a : List ℕ) (bs : List (List ℕ)) (n : Option (List ℕ)) → FollowAll (Some a) bs n → IsSorted octets_cmp bs
after_bound a [] n f = λ k d low h. absurd (omega (arith, h))
after_bound a (b ∷ bs) n f = follow_sorted b bs n (subst (λ u. FollowAll u bs n) f.1.1 f.2)

follow_ordered : (m : BERMode) (bs : List (List ℕ)) (n : Option (List ℕ)) → FollowAll (bound_in Ascending m) bs n → AreInSetOfOrder m bs
follow_ordered Ber bs n f = tt
follow_ordered Der bs n f = after_bound [] bs n f
follow_ordered Cer bs n f = after_bound [] bs n f

-- no list that rises has after them a piece that falls below their bound
falls_not : (a : List ℕ) (bs : List (List ℕ)) (n : Option (List ℕ)) (x : List ℕ) (more : List (List ℕ)) → FollowAll (Some a) bs n → FallsBelow n x →
    Rises below (a ∷ ((bs ++ (x ∷ [])) ++ more)) → ⊥
falls_not a [] n x more f falls r =
    let g : goes_before x a ≡ true = subst (λ u. FallsBelow u x) f falls in
    let h = r.0.0 in
    absurd (cc)
falls_not a (b ∷ bs) n x more f falls r = falls_not b bs n x more (subst (λ u. FollowAll u bs n) f.1.1 f.2) falls r.1

never_below : (y : List ℕ) → below y [] ≡ false
never_below [] = refl
never_below (b ∷ y) = refl

all_above : (bs : List (List ℕ)) → AllByRecursion (λ y. below y [] ≡ false) bs
all_above [] = tt
all_above (b ∷ bs) = (never_below b, all_above bs)

none_follows : (bs : List (List ℕ)) (n : Option (List ℕ)) (x : List ℕ) → FollowAll None bs n → FallsBelow n x → ⊥
none_follows [] n x f falls = subst (λ u. FallsBelow u x) f falls
none_follows (b ∷ bs) n x f falls = none_follows bs n x (subst (λ u. FollowAll u bs n) f.1 f.2) falls

falls_in : (m : BERMode) (bs : List (List ℕ)) (n : Option (List ℕ)) (x : List ℕ) (more : List (List ℕ)) → FollowAll (bound_in Ascending m) bs n →
    FallsBelow n x → AreInSetOfOrder m ((bs ++ (x ∷ [])) ++ more) → ⊥
falls_in Ber bs n x more f falls up = none_follows bs n x f falls
falls_in Der bs n x more f falls up =
    let ps = (bs ++ (x ∷ [])) ++ more in
    falls_not [] bs n x more f falls (all_above ps, rises_sorted octets_cmp (ranks_by nat_list_cmp_total (λ (b : List ℕ). b)) ps up)
falls_in Cer bs n x more f falls up =
    let ps = (bs ++ (x ∷ [])) ++ more in
    falls_not [] bs n x more f falls (all_above ps, rises_sorted octets_cmp (ranks_by nat_list_cmp_total (λ (b : List ℕ). b)) ps up)

-- a vector's contents are those of its items
seen_contents : {A : Type 0} (C : Grammar (List A)) (S : Members) (s s' : Reading) (k : Option ASN1Error)
    (r : Result (Vec A Global) ASN1Error) → DecodesContents true C S s (unless_failed k (items_of r)) s' →
    DecodesContents {A = Vec A Global} true (λ m n v c. C m n v.items c) S s (unless_failed k r) s'
seen_contents C S s s' (Some e) r h = h
seen_contents C S s s' None (Ok v) h = record {
  parsed = record { prefix = h.parsed.prefix; rest = h.parsed.rest; joined = h.parsed.joined; member = h.parsed.member; left = h.parsed.left };
  ends = h.ends;
}
seen_contents C S s s' None (Err e) h = h

-- pieces that are members of S represent themselves
abbrev Itself : (List ℕ → Type 0) → List ℕ → List ℕ → Type 0
Itself S v b = (v ≡ b) × S b

each_itself : {A : Type 0} {R : A → List ℕ → Type 0} {S : List ℕ → Type 0} → ((v : A) (b : List ℕ) → R v b → S b) →
    (vs : List A) (bs : List (List ℕ)) →
    Each R vs bs → Each (Itself S) bs bs
each_itself f [] [] p = tt
each_itself f [] (b ∷ bs) p = absurd p
each_itself f (v ∷ vs) [] p = absurd p
each_itself f (v ∷ vs) (b ∷ bs) p = ((refl, f v b p.0), each_itself f vs bs p.1)

module _ {F A : Type 0} {E : A → A → Type 0} {B : Grammar A} {S : Members} (laws : IsCoding E B S) (may_allocate : Bool)
    (C : F → Reading → Result A ASN1Error → F → Reading → Type 0)
    (obeys : (f : F) (s : Reading) (r : Result A ASN1Error) (f' : F) (s' : Reading) → IsFresh s → C f s r f' s' → Decodes may_allocate B S s r s') where
  -- turns in order took these pieces, which represent the values
  record InOrder (g : Bounded F) (vs : List A) (s : Reading) (g' : Bounded F) (s' : Reading) : Type 0 where
    pieces : List (List ℕ)
    each : Each (B s.mode s.levels) vs pieces
    joined : s.left ≡ concat pieces ++ s'.left
    same : s' ≡ record s { left = s'.left }
    follow : FollowAll g.bound pieces g'.bound
    turns : Turns (ListTurn C) g.callback s vs g'.callback s'

  -- a turn that gave a value took an element that represents it
  record Given (s : Reading) (v : A) (b : List ℕ) (s' : Reading) : Type 0 where
    member : B s.mode s.levels v b
    left : s' ≡ record s { left = s'.left }

  given : (f : F) (s : Reading) (v : A) (f' : F) (s' : Reading) (b : List ℕ) → IsFresh s → ListTurn C f s (Matched v) f' s' → s.left ≡ b ++ s'.left →
      Given s v b s'
  given f s v f' s' b fresh t e =
      let d = subst (λ z. Decodes may_allocate B S s z t.left) t.comes.0.2 (obeys f s t.own f' t.left fresh t.called) in
      let at = left_after may_allocate B S s fresh v t.left s' d t.comes.0.3 in
      let rest = ap (λ (z : Reading). z.left) at in
      let same = append_before b d.prefix d.rest (ap (λ z. b ++ z) (sym rest) ∙ sym e ∙ d.joined) in
      record { member = subst (λ z. B s.mode s.levels v z) (sym same) d.member; left = at ∙ ap (λ (z : List ℕ). record s { left = z }) (sym rest) }

  ran : (vs : List A) (g : Bounded F) (s : Reading) (g' : Bounded F) (s' : Reading) → IsFresh s → Turns (TurnInOrder C) g s vs g' s' →
      InOrder g vs s g' s'
  ran [] g s g' s' fresh t = record {
    pieces = [];
    each = tt;
    joined = ap (λ (z : Reading). z.left) (sym t.1);
    same = t.1 ∙ ap (λ (z : Reading). record s { left = z.left }) (sym t.1);
    follow = ap (λ (z : Bounded F). z.bound) t.0;
    turns = (ap (λ (z : Bounded F). z.callback) t.0, t.1);
  }
  ran (v ∷ vs) g s g' s' fresh t =
      let k = given g.callback s v t.0.callback t.1 t.2.element fresh t.2.turn t.2.joined in
      let now : IsFresh t.1 = (ap (λ (z : Reading). z.failed) k.left ∙ fresh.0, ap (λ (z : Reading). z.tag) k.left ∙ fresh.1) in
      let x = ran vs t.0 t.1 g' s' now t.3 in
      record {
        pieces = t.2.element ∷ x.pieces;
        each = (k.member, subst (λ (z : Reading). Each (B z.mode z.levels) vs x.pieces) k.left x.each);
        joined = t.2.joined ∙ ap (λ z. t.2.element ++ z) x.joined ∙ sym (append_assoc t.2.element (concat x.pieces) s'.left);
        same = x.same ∙ ap (λ (z : Reading). record z { left = s'.left }) k.left;
        follow = (t.0.bound, t.2.follows, x.follow);
        turns = (t.0.callback, t.1, t.2.turn, x.turns);
      }

  -- the bytes of a SET OF are those of a list
  as_list : (m : BERMode) (n : ℕ) (c : List ℕ) → AnySetOfElements S m n c → AnyElements S m n c
  as_list m n c p = (p.0, p.1.elements)

  widen : (g : Bounded F) (s : Reading) → g.bound ≡ bound_in Ascending s.mode → (x : Result (List A) ASN1Error) (s' : Reading) →
      ((ws : List A) → x ≡ Ok ws → (h : Bounded F) × (place : Reading) × InOrder g ws s h place × (place.left ≡ s'.left)) →
      DecodesContents true (ElementsOf B) (AnyElements S) s x s' → DecodesContents true (SetOfElements B) (AnySetOfElements S) s x s'
  widen g s bound (Err e) s' w h = record { none = λ q d y i j k. h.none q d y i j (as_list s.mode s.levels d k); memory = h.memory }
  widen g s bound (Ok ws) s' w h =
      let y = w ws refl in
      let i = y.2 in
      let rest : y.1.left ≡ h.parsed.rest = y.3 ∙ ap (λ (z : Reading). z.left) h.parsed.left in
      let same = append_before (concat i.pieces) h.parsed.prefix h.parsed.rest
      (ap (λ z. concat i.pieces ++ z) (sym rest) ∙ sym i.joined ∙ h.parsed.joined) in
      record {
        parsed = record {
          prefix = h.parsed.prefix;
          rest = h.parsed.rest;
          joined = h.parsed.joined;
          member = record {
            elements = record { pieces = i.pieces; each = i.each; joined = sym same };
            order = follow_ordered s.mode i.pieces y.0.bound (subst (λ u. FollowAll u i.pieces y.0.bound) bound i.follow);
          };
          left = h.parsed.left;
        };
        ends = λ d x e j k. h.ends d x e j (as_list s.mode s.levels d k);
      }

  -- an element that falls below the bound is in no SET OF that is there
  falls_none : (g : Bounded F) (s : Reading) → IsFresh s → g.bound ≡ bound_in Ascending s.mode → (vs : List A) (h : Bounded F) (place : Reading) →
      InOrder g vs s h place → (e : ASN1Error) (h' : Bounded F) (s' : Reading) → Falls C h place e h' s' →
      NotContents true (AnySetOfElements S s.mode s.levels) s e
  falls_none g s fresh bound vs h place x e h' s' f = record { none = λ q d y i j k. none d y i j k.0 k.1; memory = λ q. refl }
    where
      m : BERMode
      m = s.mode

      n : ℕ
      n = s.levels

      now : IsFresh place
      now = (ap (λ (z : Reading). z.failed) x.same ∙ fresh.0, ap (λ (z : Reading). z.tag) x.same ∙ fresh.1)

      here : B m n f.value f.element
      here =
          let k = given h.callback place f.value h'.callback f.between f.element now f.turn f.joined in
          subst (λ (z : Reading). B z.mode z.levels f.value f.element) x.same k.member

      exact : (v w b c r t : List ℕ) → Itself (S m n) v b → Itself (S m n) w c → b ++ r ≡ c ++ t → (v ≡ w) × (b ≡ c)
      exact v w b c r t p q e =
          let same = laws.prefix_free m n n b c r t p.1 q.1 e in
          (p.0 ∙ same ∙ sym q.0, same)

      so_far : Each (Itself (S m n)) (x.pieces ++ (f.element ∷ [])) (x.pieces ++ (f.element ∷ []))
      so_far =
          each_append (Itself (S m n)) x.pieces (f.element ∷ []) x.pieces (f.element ∷ [])
          (each_itself (laws.meaning.among m n) vs x.pieces x.each)
          ((refl, laws.meaning.among m n f.value f.element here), tt)

      reached : s.left ≡ concat (x.pieces ++ (f.element ∷ [])) ++ f.between.left
      reached =
          x.joined ∙ ap (λ z. concat x.pieces ++ z) f.joined ∙ sym (append_assoc (concat x.pieces) f.element f.between.left) ∙
          ap (λ z. z ++ f.between.left)
          (ap (λ z. concat x.pieces ++ z) (sym (append-nil f.element)) ∙ sym (concat-append x.pieces (f.element ∷ [])))

      none : (d y : List ℕ) → s.left ≡ d ++ y → AtEnd y → (us : List (Unit {0})) → SetOfElements {A = Unit {0}} (λ m n u b. S m n b) m n us d → ⊥
      none d y i j us p =
          let ps = p.elements.pieces in
          let all : Each (Itself (S m n)) ps ps = each_itself (λ u b k. k) us ps p.elements.each in
          let stop : NoPrefix (Itself (S m n)) y = no_prefix_at_end (λ v b k. laws.opens m n b k.1) y j in
          let w = pieces_further exact (x.pieces ++ (f.element ∷ [])) ps (concat (x.pieces ++ (f.element ∷ []))) d f.between.left y
          (record { pieces = x.pieces ++ (f.element ∷ []); each = so_far; joined = refl })
          (record { pieces = ps; each = all; joined = p.elements.joined }) stop (sym reached ∙ i) in
          falls_in m x.pieces h.bound f.element w.values (subst (λ u. FollowAll u x.pieces h.bound) bound x.follow) f.falls
          (subst (AreInSetOfOrder m) w.all p.order)

  blames_bytes : (g : Bounded F) (s : Reading) → IsFresh s → g.bound ≡ bound_in Ascending s.mode → (vs : List A) (h : Bounded F) (place : Reading) →
      InOrder g vs s h place → (o : Outcome A) (h' : Bounded F) (s' : Reading) → ListTurn C h.callback place o h'.callback s' →
      (xs : Result (List A) ASN1Error) → EndsList vs o xs →
      ((ws : List A) → unless_failed s'.failed xs ≡ Ok ws → (ws ≡ vs) × (place.left ≡ s'.left)) →
      DecodesContents true (SetOfElements B) (AnySetOfElements S) s (unless_failed s'.failed xs) s'
  blames_bytes g s fresh bound vs h place x o h' s' t xs ends at =
      widen g s bound (unless_failed s'.failed xs) s'
      (λ ws e. let y = at ws e in (h, place, subst (λ z. InOrder g z s h place) (sym y.0) x, y.1))
      (listed laws may_allocate C obeys true (λ e. refl) g.callback s fresh xs s' (record {
        values = vs;
        reached = h.callback;
        place = place;
        turns = x.turns;
        last = o;
        after = h'.callback;
        turn = t;
        ends = ends;
      }))

  ended_by : (g : Bounded F) (s : Reading) → IsFresh s → g.bound ≡ bound_in Ascending s.mode → (vs : List A) (h : Bounded F) (place : Reading) →
      InOrder g vs s h place → (o : Outcome A) (h' : Bounded F) (s' : Reading) → TurnInOrder C h place o h' s' →
      (xs : Result (List A) ASN1Error) → EndsList vs o xs →
      DecodesContents true (SetOfElements B) (AnySetOfElements S) s (unless_failed s'.failed xs) s'
  ended_by g s fresh bound vs h place x (Matched v) h' s' t xs ends = absurd ends
  ended_by g s fresh bound vs h place x (NoMatch e) h' s' t xs ends =
      blames_bytes g s fresh bound vs h place x (NoMatch e) h' s' t xs ends (λ ws f.
      let none : s'.failed ≡ None = ap (λ (z : Reading). z.failed) t.comes.4 in
      let g : Ok vs ≡ Ok ws = sym (ap₂ unless_failed none ends) ∙ f in
      let left = ap (λ (z : Reading). z.left) t.comes.4 ∙ place_unconsumed place.left t.left.left t.comes.1 in
      ((cc), sym left))
  ended_by g s fresh bound vs h place x (Failed e) h' s' (failed t) xs ends =
      blames_bytes g s fresh bound vs h place x (Failed e) h' s' t xs ends (λ ws f. absurd (not_ok s'.failed ws (ap (λ z. unless_failed s'.failed z)
      (sym ends) ∙ f)))
    where
      not_ok : (k : Option ASN1Error) (ws : List A) → unless_failed k (Err e) ≡ Ok ws → ⊥
      not_ok (Some d) ws f = absurd (cc)
      not_ok None ws f = absurd (cc)
  ended_by g s fresh bound vs h place x (Failed e) h' s' (fell f) xs ends =
      let D = falls_none g s fresh bound vs h place x e h' s' f in
      let k : s'.failed ≡ Some e = ap (λ (z : Reading). z.failed) f.state in
      subst (λ z. DecodesContents true (SetOfElements B) (AnySetOfElements S) s (unless_failed z xs) s') (sym k) D

  in_order : (f : F) (s : Reading) (r : Result (Vec A Global) ASN1Error) (s' : Reading) → IsFresh s → CollectsInOrder Ascending C f s r s' →
      DecodesContents true (SetOfElements B) (AnySetOfElements S) s (unless_failed s'.failed (items_of r)) s'
  in_order f s r s' fresh (inl x) =
      let g : Bounded F = record { callback = f; bound = bound_in Ascending s.mode } in
      ended_by g s fresh refl x.values x.reached x.place (ran x.values g s x.reached x.place fresh x.turns) x.last x.after s' x.turn (items_of r) x.ends
  in_order f s r s' fresh (inr x) =
      let D : NotContents true (AnySetOfElements S s.mode s.levels) s x.error = record { none = λ q d y i j k. q x.memory; memory = λ q. refl } in
      subst (λ k. DecodesContents true (SetOfElements B) (AnySetOfElements S) s (unless_failed k (items_of r)) s')
      (sym (ap (λ (z : Reading). z.failed) x.state)) D

  -- a SET OF that is collected
  pub collects_set_of : (t : Tag) → (t ≡ end_tag → ⊥) → (f : F) (s : Reading) → IsFresh s → (r : Result (Vec A Global) ASN1Error) (s' : Reading) →
      ReadsParts (CollectsInOrder Ascending C f) t s r s' → Decodes {A = Vec A Global} true (λ m n v b. IsSetOf B t m n v.items b)
      (AnySetOf S t) s r s'
  collects_set_of t not_end f s fresh r s' h =
      decodes_map {A = Vec A Global} true (Enclosed (λ m n v c. SetOfElements B m n v.items c) t) (λ m n v b. IsSetOf B t m n v.items b)
      (AnySetOf S t)
      (enclosed_seen (λ v. v.items) (SetOfElements B) t) s r s'
      (element true (λ m n v c. SetOfElements B m n v.items c) (AnySetOfElements S) (CollectsInOrder Ascending C f)
      (λ z x m i k. seen_contents (SetOfElements B) (AnySetOfElements S) z m m.failed x (in_order f z x m i k)) t not_end s fresh r s' h)

-- a SET OF whose callback decodes an element a turn, its items as they are
pub set_of_by_tag : {F A : Type 0} {E : A → A → Type 0} {may_allocate : Bool} {B : Grammar A} {S : Members} {N : Does A}
    (C : F → Reading → Result A ASN1Error → F → Reading → Type 0) (f : F) (t : Tag) → (t ≡ end_tag → ⊥) → IsCoding E B S → IsDecoder may_allocate B S N →
    ((f f' : F) (s : Reading) (r : Result A ASN1Error) (s' : Reading) → C f s r f' s' → N s r s') →
    IsDecoderByTags {A = Vec A Global} (t ∷ []) true (λ m n v b. IsSetOf B t m n v.items b) (AnySetOf S t)
    (ReadsParts (CollectsInOrder Ascending C f) t)
set_of_by_tag {may_allocate} C f t not_end laws value obeys = record {
  decodes = λ s r s' fresh h. record {
    decodes = collects_set_of laws may_allocate C (λ g z x g' z' now k. value.decodes z x z' now (obeys g g' z x z' k)) t not_end f s fresh r s' h;
    no_match = parts_no_match (CollectsInOrder Ascending C f) t s r s' fresh h;
  };
}

-- a SET OF whose callback decodes an element a turn, its items in no order
pub any_set_of_by_tag : {F A : Type 0} {E : A → A → Type 0} {may_allocate : Bool} {B : Grammar A} {S : Members} {N : Does A}
    (C : F → Reading → Result A ASN1Error → F → Reading → Type 0) (f : F) (t : Tag) → (t ≡ end_tag → ⊥) → IsCoding E B S → IsDecoder may_allocate B S N →
    ((f f' : F) (s : Reading) (r : Result A ASN1Error) (s' : Reading) → C f s r f' s' → N s r s') →
    IsDecoderByTags {A = Vec A Global} (t ∷ []) true (λ m n v b. InSomeOrder (IsSetOf B t) m n v.items b) (AnySetOf S t)
    (ReadsParts (CollectsInOrder Ascending C f) t)
any_set_of_by_tag {A} {B} {S} C f t not_end laws value obeys =
    let x = set_of_by_tag C f t not_end laws value obeys in
    record {
      decodes = λ s r s' fresh h.
          let y = x.decodes s r s' fresh h in
          record {
            decodes = decodes_map {A = Vec A Global} true (λ m n v b. IsSetOf B t m n v.items b)
                (λ m n v b. InSomeOrder (IsSetOf B t) m n v.items b)
                (AnySetOf S t) (λ m n v b k. as_it_is (IsSetOf B t) m n v.items b k) s r s' y.decodes;
            no_match = y.no_match;
          };
    }
