-- What reading a list does whose callback decodes an element a turn.
use Rattle.std.proofs.Common.{◌≡◌, ℕ, inl, inr, List, [], ◌∷◌, ◌++◌, length, Option, Some, None, refl, sym, ap, subst, ◌∙◌, append_assoc, length-append, Bool, true, arith}
use Rattle.std.specs.Global.{Global}
use Rattle.std.specs.List.{concat}
use Rattle.std.specs.Prelude.{Result, Ok, Err, Vec, MatchResult}
use Rattle.yasna_base.specs.declared.error.ASN1Error.{ASN1Error}
use Rattle.yasna_base.specs.declared.error.ASN1ErrorKind.TheVariants.{OutOfMemory}
use Rattle.yasna_base.specs.declared.tag.Tag.{Tag}
use Rattle.yasna_base.specs.Coding.{IsCoding}
use Rattle.yasna_base.specs.Element.{Enclosed}
use Rattle.yasna_base.specs.Error.{kind_of}
use Rattle.yasna_base.specs.Grammar.{Grammar, Members}
use Rattle.yasna_base.specs.Identifier.{end_tag, AtEnd}
use Rattle.yasna_base.specs.Pieces.{Each, Pieces}
use Rattle.yasna_base.specs.SequenceOf.{ElementsOf, AnyElements, IsListOf, AnyListOf}
use Rattle.yasna_base.proofs.Identifier.{begins_some}
use Rattle.yasna_base.proofs.Pieces.{NoPrefix, no_prefix_at_end, pieces_once, each_equal}
use Rattle.yasna_reader.specs.declared.callback.Outcome.{Outcome}
use Rattle.yasna_reader.specs.declared.callback.Outcome.TheVariants.{Matched, NoMatch, Failed}
use Rattle.yasna_reader.specs.Callback.{ErrorCause, sticky, before, own}
use Rattle.yasna_reader.specs.Decodes.{Explains, StickyExplains, ParsedValue, Decodes, ParsedContents, NotContents, DecodesContents}
use Rattle.yasna_reader.specs.Parse.{unless_failed}
use Rattle.yasna_bytes.specs.Rejection.{BlamesBytes}
use Rattle.yasna_reader.specs.Sequence.{place_in, ReadsParts}
use Rattle.yasna_reader.specs.SequenceOf.{Idles, ListTurn, Turns, EndsList, Lists, Collects, items_of}
use Rattle.yasna_reader.specs.State.{Reading, IsFresh}
use Rattle.yasna_bytes.proofs.Rejection.{blames_not_memory}
use Rattle.yasna_reader.proofs.Callbacks.{place_unconsumed}
use Rattle.yasna_reader.proofs.Sequences.{place_after, element}
use Rattle.yasna_reader.proofs.Tuples.{decodes_map, enclosed_seen}
use Rattle.yasna_reader.proofs.ListTurns.{fresh_as}

-- a vector's contents are those of its items
seen_contents : {A : Type 0} (C : Grammar (List A)) (S : Members) (s s' : Reading) (k : Option ASN1Error)
    (r : Result (Vec A Global) ASN1Error) → DecodesContents true C S s (unless_failed k (items_of r)) s' →
    DecodesContents {A = Vec A Global} true (λ m n v c. C m n v.items c) S s (unless_failed k r) s'
seen_contents C S s s' (Some e) r h = h
seen_contents C S s s' None (Ok v) h = record {
  parsed = record { prefix = h.parsed.prefix; rest = h.parsed.rest; joined = h.parsed.joined; member = h.parsed.member; left = h.parsed.left };
  ends = h.ends;
}
seen_contents C S s s' None (Err e) h = h

module _ {F A : Type 0} {E : A → A → Type 0} {B : Grammar A} {S : Members} (laws : IsCoding E B S) (may_allocate : Bool)
    (C : F → Reading → Result A ASN1Error → F → Reading → Type 0)
    (obeys : (f : F) (s : Reading) (r : Result A ASN1Error) (f' : F) (s' : Reading) → IsFresh s → C f s r f' s' → Decodes may_allocate B S s r s') where
  -- a callback that gave a value took an element that represents it
  parsed_as : (s : Reading) (v : A) (x : Result A ASN1Error) (m : Reading) (s' : Reading) → IsFresh s → Decodes may_allocate B S s x m → x ≡ Ok v →
      s' ≡ record s { left = place_in s.left m.left; tag = None; failed = None } → ParsedValue (B s.mode s.levels) s v s'
  parsed_as s v x m s' fresh d e at =
      let k : ParsedValue (B s.mode s.levels) s v m = subst (λ z. Decodes may_allocate B S s z m) e d in
      let place = ap (λ (z : Reading). place_in s.left z.left) k.left ∙ ap (λ z. place_in z k.rest) k.joined ∙ place_after k.prefix k.rest in
      record {
        prefix = k.prefix;
        rest = k.rest;
        joined = k.joined;
        member = k.member;
        left = at ∙ ap (λ (c : List ℕ). record s { left = c; tag = None; failed = None }) place ∙ fresh_as s k.rest fresh;
      }

  parsed_turn : (f : F) (s : Reading) (v : A) (f' : F) (s' : Reading) → IsFresh s → ListTurn C f s (Matched v) f' s' → ParsedValue (B s.mode s.levels) s v s'
  parsed_turn f s v f' s' fresh t = parsed_as s v t.own t.left s' fresh (obeys f s t.own f' t.left fresh t.called) t.comes.0.2 t.comes.0.3

  -- what turns took: elements that represent the values
  record Ran (vs : List A) (s s' : Reading) : Type 0 where
    prefix : List ℕ
    joined : s.left ≡ prefix ++ s'.left
    pieces : Pieces (B s.mode s.levels) vs prefix
    same : s' ≡ record s { left = s'.left }

  ran : (vs : List A) (f : F) (s : Reading) (f' : F) (s' : Reading) → IsFresh s → Turns (ListTurn C) f s vs f' s' → Ran vs s s'
  ran [] f s f' s' fresh t = record {
    prefix = [];
    joined = ap (λ (z : Reading). z.left) (sym t.1);
    pieces = record { pieces = []; each = tt; joined = refl };
    same = t.1 ∙ ap (λ (z : Reading). record s { left = z.left }) (sym t.1);
  }
  ran (v ∷ vs) f s f' s' fresh t =
      let k = parsed_turn f s v t.0 t.1 fresh t.2 in
      let now : IsFresh t.1 = (ap (λ (z : Reading). z.failed) k.left ∙ fresh.0, ap (λ (z : Reading). z.tag) k.left ∙ fresh.1) in
      let x = subst (λ (z : Reading). Ran vs z s') k.left (ran vs t.0 t.1 f' s' now t.3) in
      record {
        prefix = k.prefix ++ x.prefix;
        joined = k.joined ∙ ap (λ z. k.prefix ++ z) x.joined ∙ sym (append_assoc k.prefix x.prefix s'.left);
        pieces = record { pieces = k.prefix ∷ x.pieces.pieces; each = (k.member, x.pieces.each); joined = ap (λ z. k.prefix ++ z) x.pieces.joined };
        same = x.same;
      }

  -- after turns a reading is as fresh as before them
  ran_fresh : (vs : List A) (s s' : Reading) → IsFresh s → Ran vs s s' → IsFresh s'
  ran_fresh vs s s' fresh x = (ap (λ (z : Reading). z.failed) x.same ∙ fresh.0, ap (λ (z : Reading). z.tag) x.same ∙ fresh.1)

  -- where a turn has no match no element is there
  no_match_none : (f : F) (s : Reading) (e : ASN1Error) (f' : F) (s' : Reading) → IsFresh s → ListTurn C f s (NoMatch e) f' s' →
      (b r : List ℕ) → s.left ≡ b ++ r → S s.mode s.levels b → ⊥
  no_match_none f s e f' s' fresh t =
      let d = subst (λ z. Decodes may_allocate B S s z t.left) t.comes.3 (obeys f s t.own f' t.left fresh t.called) in
      d.0.explains.none (λ q. blames_not_memory t.comes.2 q)

  -- a turn without a match consumes nothing
  no_match_same : (f : F) (s : Reading) (e : ASN1Error) (f' : F) (s' : Reading) → IsFresh s → ListTurn C f s (NoMatch e) f' s' → s' ≡ s
  no_match_same f s e f' s' fresh t =
      t.comes.4 ∙ ap (λ (c : List ℕ). record s { left = c; tag = None; failed = None }) (place_unconsumed s.left t.left.left t.comes.1) ∙ fresh_as s s.left fresh

  -- what a failure says that a callback left
  turn_cause_explains : (s : Reading) (e : ASN1Error) → IsFresh s → (x : Result A ASN1Error) (m : Reading) → Decodes may_allocate B S s x m → ErrorCause s.left x m e →
      Explains may_allocate (S s.mode s.levels) s.left e × (AtEnd s.left → ⊥)
  turn_cause_explains s e fresh (Ok v) m d (sticky k) = let g = sym k ∙ ap (λ (z : Reading). z.failed) d.left ∙ fresh.0 in absurd (cc)
  turn_cause_explains s e fresh (Ok v) m d (before k b q) =
      absurd (omega (arith, b, ap length d.joined, length-append d.prefix d.rest, ap (λ (z : Reading). length z.left) d.left))
  turn_cause_explains s e fresh (Ok v) m d (own k b q w) = absurd (cc)
  turn_cause_explains s e fresh (Err y) m d (sticky k) = (
    subst (StickyExplains may_allocate (S s.mode s.levels) s.left) k d.0.failed,
    λ a. let g = sym k ∙ ap (λ (z : Reading). z.failed) (d.1 a).0 ∙ fresh.0 in absurd (cc),
  )
  turn_cause_explains s e fresh (Err y) m d (before k b q) = let l = d.0.further in absurd (omega (arith, b, l))
  turn_cause_explains s e fresh (Err y) m d (own k b q w) =
      let g : y ≡ e = cc in (
        subst (Explains may_allocate (S s.mode s.levels) s.left) g d.0.explains,
        λ a. w (ap (λ (z : Reading). length z.left) (d.1 a).0) (subst (λ z. BlamesBytes (kind_of z)) g (d.1 a).1),
      )

  -- a callback that decodes takes something where it gives a value
  not_idle : (f : F) (s : Reading) (e : ASN1Error) (f' : F) (s' : Reading) (x : Result A ASN1Error) (m : Reading) → IsFresh s → C f s x f' m →
      Idles s x m e s' → ⊥
  not_idle f s e f' s' x m fresh called i =
      let k = parsed_as s i.value x m i.between fresh (obeys f s x f' m fresh called) i.comes.2 i.comes.3 in
      let o = laws.opens s.mode s.levels k.prefix (laws.meaning.among s.mode s.levels i.value k.prefix k.member) in
      omega (arith, begins_some o.tag k.prefix o.begins, i.consumed_nothing, ap length k.joined, length-append k.prefix k.rest, ap (λ (z : Reading). length z.left) k.left)

  -- what a failure says that ends a list
  failed_explains : (f : F) (s : Reading) (e : ASN1Error) (f' : F) (s' : Reading) → IsFresh s → ListTurn C f s (Failed e) f' s' →
      Explains may_allocate (S s.mode s.levels) s.left e × (AtEnd s.left → ⊥) × (s'.failed ≡ Some e)
  failed_explains f s e f' s' fresh t = elim t.comes [
    | inl c ↦ let d = turn_cause_explains s e fresh t.own t.left (obeys f s t.own f' t.left fresh t.called) c.0 in (d.0, d.1, ap (λ (z : Reading). z.failed) c.1)
    | inr i ↦ absurd (not_idle f s e f' s' t.own t.left fresh t.called i)
  ]

  module _ (a : Bool) (up : may_allocate ≡ true → a ≡ true) where
    -- elements up to a place where none is are those that any list has whose contents end there
    same_pieces : (vs : List A) (s place : Reading) (x : Ran vs s place) → ((b r : List ℕ) → place.left ≡ b ++ r → S place.mode place.levels b → ⊥) →
        (d y : List ℕ) → s.left ≡ d ++ y → AtEnd y → AnyElements S s.mode s.levels d → (d ≡ x.prefix) × (y ≡ place.left)
    same_pieces vs s place x none d y i j k =
        let m = s.mode in
        let n = s.levels in
        let stop : NoPrefix (λ (u : Unit {0}). S m n) place.left =
        subst (λ (z : Reading). (u : Unit {0}) (b r : List ℕ) → S z.mode z.levels b → place.left ≡ b ++ r → ⊥) x.same (λ u b r h e. none b r e h) in
        let w = pieces_once
        (λ u v b c r q g h. laws.prefix_free m n n b c r q g (laws.meaning.among m n v c h))
        k.0 vs d x.prefix y place.left k.1 x.pieces (no_prefix_at_end (λ v b h. laws.opens m n b (laws.meaning.among m n v b h)) y j) stop (sym i ∙ x.joined) in
        (k.1.joined ∙ ap concat w.0 ∙ sym x.pieces.joined, w.1)

    listed_by : (s : Reading) → IsFresh s → (vs : List A) (h : F) (place : Reading) → Ran vs s place → (o : Outcome A) (h' : F) (s' : Reading) →
        ListTurn C h place o h' s' → (xs : Result (List A) ASN1Error) → EndsList vs o xs →
        DecodesContents a (ElementsOf B) (AnyElements S) s (unless_failed s'.failed xs) s'
    listed_by s fresh vs h place x (Matched v) h' s' t xs ends = absurd ends
    listed_by s fresh vs h place x (NoMatch e) h' s' t xs ends =
        let now = ran_fresh vs s place fresh x in
        let none = no_match_none h place e h' s' now t in
        let at : s' ≡ place = no_match_same h place e h' s' now t in
        let no : s'.failed ≡ None = ap (λ (z : Reading). z.failed) at ∙ now.0 in
        let D : ParsedContents (ElementsOf B s.mode s.levels) (AnyElements S s.mode s.levels) s vs s' = record {
          parsed = record { prefix = x.prefix; rest = place.left; joined = x.joined; member = x.pieces; left = at ∙ x.same };
          ends = λ d y i j k. (same_pieces vs s place x none d y i j k).0;
        } in
        subst (λ z. DecodesContents a (ElementsOf B) (AnyElements S) s (unless_failed z xs) s') (sym no)
        (subst (λ z. DecodesContents a (ElementsOf B) (AnyElements S) s z s') (sym ends) D)
    listed_by s fresh vs h place x (Failed e) h' s' t xs ends =
        let now = ran_fresh vs s place fresh x in
        let f = failed_explains h place e h' s' now t in
        let D : NotContents a (AnyElements S s.mode s.levels) s e = record {
          none = λ q d y i j k. f.1 (subst AtEnd (same_pieces vs s place x (f.0.none q) d y i j k).1 j);
          memory = λ q. up (f.0.memory q);
        } in
        subst (λ z. DecodesContents a (ElementsOf B) (AnyElements S) s (unless_failed z xs) s') (sym f.2) D

    -- contents that a list's turns read
    pub listed : (f : F) (s : Reading) → IsFresh s → (xs : Result (List A) ASN1Error) (s' : Reading) → Lists (ListTurn C) f s xs s' →
        DecodesContents a (ElementsOf B) (AnyElements S) s (unless_failed s'.failed xs) s'
    listed f s fresh xs s' x =
        listed_by s fresh x.values x.reached x.place (ran x.values f s x.reached x.place fresh x.turns) x.last x.after s' x.turn xs x.ends

  -- contents that are collected
  pub collected : (f : F) (s : Reading) (r : Result (Vec A Global) ASN1Error) (s' : Reading) → IsFresh s → Collects C f s r s' →
      DecodesContents {A = Vec A Global} true (λ m n v c. ElementsOf B m n v.items c) (AnyElements S) s (unless_failed s'.failed r) s'
  collected f s r s' fresh (inl x) = seen_contents (ElementsOf B) (AnyElements S) s s' s'.failed r (listed true (λ e. refl) f s fresh (items_of r) s' x)
  collected f s r s' fresh (inr x) =
      let D : NotContents true (AnyElements S s.mode s.levels) s x.error = record { none = λ q d y i j k. q x.memory; memory = λ q. refl } in
      subst (λ k. DecodesContents {A = Vec A Global} true (λ m n v c. ElementsOf B m n v.items c) (AnyElements S) s (unless_failed k r) s')
      (sym (ap (λ (z : Reading). z.failed) x.state)) D

  -- a list that is collected
  pub collects : (t : Tag) → (t ≡ end_tag → ⊥) → (f : F) (s : Reading) → IsFresh s → (r : Result (Vec A Global) ASN1Error) (s' : Reading) →
      ReadsParts (Collects C f) t s r s' → Decodes {A = Vec A Global} true (λ m n v b. IsListOf B t m n v.items b) (AnyListOf S t) s r s'
  collects t not_end f s fresh r s' h =
      decodes_map {A = Vec A Global} true (Enclosed (λ m n v c. ElementsOf B m n v.items c) t) (λ m n v b. IsListOf B t m n v.items b) (AnyListOf S t)
      (enclosed_seen (λ v. v.items) (ElementsOf B) t) s r s'
      (element true (λ m n v c. ElementsOf B m n v.items c) (AnyElements S) (Collects C f) (λ z x m i k. collected f z x m i k) t not_end s fresh r s' h)

-- where items are equal one by one, so are the lists
pub same_items : {A : Type 0} (r : Result (Vec A Global) ASN1Error) (vs : List A) →
    MatchResult r (λ v. Each (λ x y. x ≡ y) v.items vs) (λ e. kind_of e ≡ OutOfMemory) → MatchResult r (λ v. v.items ≡ vs) (λ e. kind_of e ≡ OutOfMemory)
same_items (Ok v) vs h = each_equal v.items vs h
same_items (Err e) vs h = h
