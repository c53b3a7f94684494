-- The turns of a list's callback.
use Rattle.std.proofs.Common.{◌≡◌, ◌≤◌, ℕ, inl, inr, length, List, [], ◌∷◌, ◌++◌, None, Some, Option, Ok, refl, sym, ap, subst, ◌∙◌, append_assoc}
use Rattle.std.proofs.Common.{arith, length-append}
use Rattle.std.specs.Borrow.{MutBor}
use Rattle.std.specs.Fn.{Mut, CalledAtMut}
use Rattle.std.specs.Global.{Global}
use Rattle.std.specs.Prelude.{Result, Vec}
use Rattle.yasna_base.specs.declared.error.ASN1Error.{ASN1Error}
use Rattle.yasna_base.specs.declared.tag.Tag.{Tag}
use Rattle.yasna_reader.specs.declared.callback.Outcome.{Outcome}
use Rattle.yasna_reader.specs.declared.callback.Outcome.TheVariants.{Matched, NoMatch, Failed}
use Rattle.yasna_bytes.specs.declared.bytes.cursor.Cursor.{Cursor}
use Rattle.yasna_reader.specs.Callback.{WithSome, ComesTo, FailsAs, at_cursor}
use Rattle.yasna_reader.specs.Sequence.{ReadsParts, TakesContents}
use Rattle.yasna_reader.specs.SequenceOf.{TakesTurn, TakesTurns, TurnsOut, ListTurn, Turns, Lists, Collects, Visits, items_of}
use Rattle.yasna_reader.specs.SetOf.{Bounded, Follows, FallsBelow, GivesInOrder, FailsInOrder, TurnInOrder, failed, fell, Ordered, TurnsOutInOrder, CollectsInOrder, VisitsInOrder, TakesTurnsInOrder, bound_in}
use Rattle.yasna_reader.specs.declared.set_of.Order.{Order}
use Rattle.yasna_reader.specs.declared.set_of.Order.TheVariants.{Any}
use Rattle.yasna_base.specs.Error.{error_of}
use Rattle.yasna_base.specs.declared.error.ASN1ErrorKind.TheVariants.{Invalid}
use Rattle.yasna_reader.specs.State.{Reading, IsFresh, failing, inside}
use Rattle.yasna_bytes.specs.Walk.{IsRest}
use Rattle.yasna_reader.proofs.Callbacks.{taken_after}
use Rattle.yasna_reader.proofs.Sequences.{parts_map}

tagged_turn : {A : Type 0} (c : Cursor) (t : Option Tag) (k : Option ASN1Error) (x : Result A ASN1Error) (m : Reading) (o : Outcome A) (s' : Reading) →
    TurnsOut (at_cursor c) x m o s' → TurnsOut (record (at_cursor c) { tag = t; failed = k }) x m o s'
tagged_turn c t k x m (Matched v) s' h = h
tagged_turn c t k x m (NoMatch e) s' h = h
tagged_turn c t k x m (Failed e) s' (inl h) = inl h
tagged_turn c t k x m (Failed e) s' (inr h) = inr (record {
  value = h.value;
  between = h.between;
  comes = h.comes;
  consumed_nothing = h.consumed_nothing;
  invalid = h.invalid;
  state = h.state;
})

some_tagged : {A : Type 0} (c : Cursor) (t : Option Tag) (k : Option ASN1Error) (x : Result A ASN1Error) (m : Reading) (o : Outcome (Unit {0}))
    (z : Reading) → WithSome (λ q. TurnsOut (at_cursor c) x m q z) o →
    WithSome (λ q. TurnsOut (record (at_cursor c) { tag = t; failed = k }) x m q z) o
some_tagged c t k x m (Matched u) z h = (h.0, tagged_turn c t k x m (Matched h.0) z h.1)
some_tagged c t k x m (NoMatch e) z h = tagged_turn c t k x m (NoMatch e) z h
some_tagged c t k x m (Failed e) z h = tagged_turn c t k x m (Failed e) z h

-- what a turn came to depends on the place alone that it began at
pub turned_at : {A : Type 0} (c : Cursor) (t : Option Tag) (k : Option ASN1Error) (s : Reading) (a : Option (List ℕ)) (x : Result A ASN1Error)
    (m : Reading) (o : Outcome (Unit {0})) (n : Option (List ℕ)) (s' : Reading) → record (at_cursor c) { tag = t; failed = k } ≡ s →
    TurnsOutInOrder a (at_cursor c) x m o n s' → TurnsOutInOrder a s x m o n s'
turned_at c t k s a x m o n s' e h =
    subst (λ z. TurnsOutInOrder a z x m o n s') e (record {
      outcome = h.outcome;
      between = h.between;
      turn = some_tagged c t k x m h.outcome h.between h.turn;
      ordered = h.ordered;
    })

module _ {G A : Type 0} (T : G → Reading → Outcome A → G → Reading → Type 0) where
  -- one turn more
  pub turns_more : (g : G) (s : Reading) (vs : List A) (v : A) (h : G) (m : Reading) (g' : G) (s' : Reading) → Turns T g s vs h m → T h m (Matched v) g' s' →
      Turns T g s (vs ++ (v ∷ [])) g' s'
  turns_more g s [] v h m g' s' a b = (g', s', subst (λ z. T z s (Matched v) g' s') a.0 (subst (λ z. T h z (Matched v) g' s') a.1 b), (refl, refl))
  turns_more g s (w ∷ vs) v h m g' s' a b = (a.0, a.1, a.2, turns_more a.0 a.1 vs v h m g' s' a.3 b)

-- a fresh reading has no implicit tag and no failure to lose
pub fresh_as : (s : Reading) (c : List ℕ) → IsFresh s → record s { left = c; tag = None; failed = None } ≡ record s { left = c }
fresh_as s c fresh =
    ap (λ (t : Option Tag). record s { left = c; tag = t; failed = None }) (sym fresh.1) ∙
    ap (λ (k : Option ASN1Error). record s { left = c; failed = k }) (sym fresh.0)

-- turns so far: from the fresh reading s they gave these values, and are at the reading m, which is what is left of s
pub record SoFar {G A : Type 0} (T : G → Reading → Outcome A → G → Reading → Type 0) (g : G) (s : Reading) (vs : List A) (h : G) (m : Reading) :
    Type 0 where
  pub prefix : List ℕ
  pub joined : s.left ≡ prefix ++ m.left
  pub same : m ≡ record s { left = m.left }
  pub turns : Turns T g s vs h m

-- a further turn
pub more_so_far : {F A : Type 0} (C : F → Reading → Result A ASN1Error → F → Reading → Type 0) (g : Bounded F) (s : Reading) (vs : List A) (v : A)
    (h : Bounded F) (m : Reading) (g' : Bounded F) (s' : Reading) → IsFresh s → SoFar (TurnInOrder C) g s vs h m → GivesInOrder C h m v g' s' →
    SoFar (TurnInOrder C) g s (vs ++ (v ∷ [])) g' s'
more_so_far C g s vs v h m g' s' fresh a b =
    let c = b.turn.comes.0 in
    let at : s' ≡ record m { left = s'.left; tag = None; failed = None } =
    c.3 ∙ ap (λ (z : List ℕ). record m { left = z; tag = None; failed = None }) (sym (ap (λ (z : Reading). z.left) c.3)) in
    let mid : record m { left = s'.left; tag = None; failed = None } ≡ record s { left = s'.left; tag = None; failed = None } =
    ap (λ (z : Reading). record z { left = s'.left; tag = None; failed = None }) a.same in
    record {
      prefix = a.prefix ++ b.element;
      joined = a.joined ∙ ap (λ z. a.prefix ++ z) b.joined ∙ sym (append_assoc a.prefix b.element s'.left);
      same = at ∙ mid ∙ fresh_as s s'.left fresh;
      turns = turns_more (TurnInOrder C) g s vs v h m g' s' a.turns b;
    }

-- turns of a list whose elements ascend are turns of its callback
plain_turns : {F A : Type 0} (C : F → Reading → Result A ASN1Error → F → Reading → Type 0) (vs : List A) (g : Bounded F) (s : Reading) (h : Bounded F)
    (m : Reading) → Turns (TurnInOrder C) g s vs h m → Turns (ListTurn C) g.callback s vs h.callback m
plain_turns C [] g s h m t = (ap (λ (z : Bounded _). z.callback) t.0, t.1)
plain_turns C (v ∷ vs) g s h m t = (t.0.callback, t.1, t.2.turn, plain_turns C vs t.0 t.1 h m t.3)

-- a callback that may be called wherever its turns reach may be so where elements have to be in order
pub turns_in_order : {F A : Type 0} (o : Order) (g : Mut F (MutBor Reading × Unit {0}) (Result A ASN1Error × (MutBor Reading × Unit {0}))) (f : F)
    (s : Reading) → TakesTurns g f s → TakesTurnsInOrder o g f s
turns_in_order o g f s may h vs prefix rest e turns =
    may h.callback vs prefix rest e (plain_turns (CalledAtMut g) vs (record { callback = f; bound = bound_in o s.mode }) s h (record s { left = rest }) turns)

-- as `turns_in_order`, of the contents of a list
pub takes_in_order : {F A : Type 0} (o : Order) (g : Mut F (MutBor Reading × Unit {0}) (Result A ASN1Error × (MutBor Reading × Unit {0}))) (f : F)
    (t : Tag) (s : Reading) → TakesContents (TakesTurns g f) t s → TakesContents (TakesTurnsInOrder o g f) t s
takes_in_order o g f t s may c end unfailed level opens = turns_in_order o g f (inside s c) (may c end unfailed level opens)

-- the callback may be called where turns so far reached
pub takes_turn : {F A : Type 0} (o : Order) (g : Mut F (MutBor Reading × Unit {0}) (Result A ASN1Error × (MutBor Reading × Unit {0}))) (f : F)
    (s : Reading) (vs : List A) (h : Bounded F) (m : Reading) → TakesTurnsInOrder o g f s →
    SoFar (TurnInOrder (CalledAtMut g)) (record { callback = f; bound = bound_in o s.mode }) s vs h m → TakesTurn g h.callback m
takes_turn o g f s vs h m may so =
    subst (λ z. TakesTurn g h.callback z) (sym so.same) (may h vs so.prefix m.left so.joined
    (subst (λ z. Turns (TurnInOrder (CalledAtMut g)) (record { callback = f; bound = bound_in o s.mode }) s vs h z) so.same so.turns))

-- what is left behind a turn is after what it took
pub turn_rest : {A : Type 0} (s : Reading) (x : Result A ASN1Error) (m : Reading) (o : Outcome (Unit {0})) (s' : Reading) →
    WithSome (λ q. TurnsOut s x m q s') o → IsRest s.left s'.left
turn_rest s x m (Matched u) s' h = taken_after s x m (Matched h.0) s' h.1.0
turn_rest s x m (NoMatch e) s' h = taken_after s x m (NoMatch e) s' h
turn_rest s x m (Failed e) s' (inl h) = taken_after s x m (Failed e) s' h
turn_rest s x m (Failed e) s' (inr i) =
    let w = taken_after s x m (Matched i.value) i.between i.comes in
    (w.0, w.1 ∙ ap (λ (z : Reading). w.0 ++ z.left) (sym i.state))

-- a value for which nothing was taken, and the failure that is returned in its place
pub idled : {A : Type 0} (s : Reading) (x : Result A ASN1Error) (m z s' : Reading) (p o : Outcome (Unit {0})) (u : Unit {0}) (e : ASN1Error) →
    WithSome (λ q. ComesTo s x m q z) p → p ≡ Matched u → length s.left ≤ length z.left → e ≡ error_of Invalid → FailsAs e z o s' →
    WithSome (λ q. TurnsOut s x m q s') o
idled s x m z s' p o u e h matched idle is fails =
    let given = subst (λ w. WithSome (λ q. ComesTo s x m q z) w) matched h in
    let rest = taken_after s x m (Matched given.0) z given.1 in
    subst (λ w. WithSome (λ q. TurnsOut s x m q s') w) (sym fails.0) (inr (record {
      value = given.0;
      between = z;
      comes = given.1;
      consumed_nothing = omega (arith, idle, ap length rest.1, length-append rest.0 z.left);
      invalid = is;
      state = fails.1;
    }))

-- what was made of a turn
module _ {F A : Type 0} (C : F → Reading → Result A ASN1Error → F → Reading → Type 0) (g g' : Bounded F) (s : Reading) (x : Result A ASN1Error)
    (m s' : Reading) (called : C g.callback s x g'.callback m) where
  matched_by : (p : Outcome (Unit {0})) (z : Reading) (u : Unit {0}) → WithSome (λ q. TurnsOut s x m q z) p →
      Ordered g.bound s.left p z (Matched u) g'.bound s' → (v : A) × (x ≡ Ok v) × GivesInOrder C g s v g' s'
  matched_by (Matched w) z u t (b, e, inl h) = (
    t.0,
    t.1.0.2,
    subst (λ y. GivesInOrder C g s t.0 g' y) (sym h.2) (record {
      turn = record { own = x; left = m; called = called; comes = t.1 };
      element = b;
      joined = e;
      follows = h.0;
    }),
  )
  matched_by (Matched w) z u t (b, e, inr h) = let i = h.1 in absurd (cc)
  matched_by (NoMatch d) z u t h = let i = h.0 in absurd (cc)
  matched_by (Failed d) z u t h = let i = h.0 in absurd (cc)

  -- a value that may be after those before
  pub matched_in_order : (u : Unit {0}) → TurnsOutInOrder g.bound s x m (Matched u) g'.bound s' → (v : A) × (x ≡ Ok v) × GivesInOrder C g s v g' s'
  matched_in_order u h = matched_by h.outcome h.between u h.turn h.ordered

  no_match_by : (p : Outcome (Unit {0})) (z : Reading) (e : ASN1Error) → WithSome (λ q. TurnsOut s x m q z) p →
      Ordered g.bound s.left p z (NoMatch e) g'.bound s' → ListTurn C g.callback s (NoMatch e) g'.callback s'
  no_match_by (Matched w) z e t (b, i, inl h) = let j = h.1 in absurd (cc)
  no_match_by (Matched w) z e t (b, i, inr h) = let j = h.1 in absurd (cc)
  no_match_by (NoMatch d) z e t h =
      let j = h.0 in
      let k : e ≡ d = cc in
      subst (λ y. ListTurn C g.callback s (NoMatch e) g'.callback y) (sym h.1) (record {
        own = x;
        left = m;
        called = called;
        comes = subst (λ y. TurnsOut s x m (NoMatch y) z) (sym k) t;
      })
  no_match_by (Failed d) z e t h = let j = h.0 in absurd (cc)

  -- no value
  pub no_match_in_order : (e : ASN1Error) → TurnsOutInOrder g.bound s x m (NoMatch e) g'.bound s' → ListTurn C g.callback s (NoMatch e) g'.callback s'
  no_match_in_order e h = no_match_by h.outcome h.between e h.turn h.ordered

  failed_by : (p : Outcome (Unit {0})) (z : Reading) (e : ASN1Error) → WithSome (λ q. TurnsOut s x m q z) p →
      Ordered g.bound s.left p z (Failed e) g'.bound s' → FailsInOrder C g s e g' s'
  failed_by (Matched w) z e t (b, i, inl h) = let j = h.1 in absurd (cc)
  failed_by (Matched w) z e t (b, i, inr h) =
      let j = h.1 in
      let k : e ≡ error_of Invalid = cc in
      fell (record {
        value = t.0;
        between = z;
        turn = record { own = x; left = m; called = called; comes = t.1 };
        element = b;
        joined = i;
        falls = h.0;
        invalid = k;
        state = h.2 ∙ ap (λ y. failing z y) (sym k);
      })
  failed_by (NoMatch d) z e t h = let j = h.0 in absurd (cc)
  failed_by (Failed d) z e t h =
      let j = h.0 in
      let k : e ≡ d = cc in
      failed (subst (λ y. ListTurn C g.callback s (Failed e) g'.callback y) (sym h.1) (record {
        own = x;
        left = m;
        called = called;
        comes = subst (λ y. TurnsOut s x m (Failed y) z) (sym k) t;
      }))

  -- a sticky error
  pub failed_in_order : (e : ASN1Error) → TurnsOutInOrder g.bound s x m (Failed e) g'.bound s' → FailsInOrder C g s e g' s'
  failed_in_order e h = failed_by h.outcome h.between e h.turn h.ordered

-- without a bound, turns are just those of the callback
module _ {F A : Type 0} (C : F → Reading → Result A ASN1Error → F → Reading → Type 0) where
  unbounded : (a n : Option (List ℕ)) (b : List ℕ) → a ≡ None → Follows a b n → n ≡ None
  unbounded None n b e h = h
  unbounded (Some a) n b e h = absurd (cc)

  none_falls : (a : Option (List ℕ)) (b : List ℕ) → a ≡ None → FallsBelow a b → ⊥
  none_falls None b e h = h
  none_falls (Some a) b e h = absurd (cc)

  turns_any : (vs : List A) (g : Bounded F) (s : Reading) (h : Bounded F) (m : Reading) → g.bound ≡ None → Turns (TurnInOrder C) g s vs h m →
      Turns (ListTurn C) g.callback s vs h.callback m × (h.bound ≡ None)
  turns_any [] g s h m e t = ((ap (λ (z : Bounded F). z.callback) t.0, t.1), ap (λ (z : Bounded F). z.bound) t.0 ∙ e)
  turns_any (v ∷ vs) g s h m e t =
      let w = turns_any vs t.0 t.1 h m (unbounded g.bound t.0.bound t.2.element e t.2.follows) t.3 in
      ((t.0.callback, t.1, t.2.turn, w.0), w.1)

  turn_any : (g : Bounded F) (s : Reading) (o : Outcome A) (g' : Bounded F) (s' : Reading) → g.bound ≡ None → TurnInOrder C g s o g' s' →
      ListTurn C g.callback s o g'.callback s'
  turn_any g s (Matched v) g' s' e t = t.turn
  turn_any g s (NoMatch k) g' s' e t = t
  turn_any g s (Failed k) g' s' e (failed t) = t
  turn_any g s (Failed k) g' s' e (fell t) = absurd (none_falls g.bound t.element e t.falls)

  lists_any : (f : F) (s : Reading) (r : Result (List A) ASN1Error) (s' : Reading) → Lists (TurnInOrder C) (record { callback = f; bound = None }) s r s' →
      Lists (ListTurn C) f s r s'
  lists_any f s r s' h =
      let w = turns_any h.values (record { callback = f; bound = None }) s h.reached h.place refl h.turns in
      record {
        values = h.values;
        reached = h.reached.callback;
        place = h.place;
        turns = w.0;
        last = h.last;
        after = h.after.callback;
        turn = turn_any h.reached h.place h.last h.after s' w.1 h.turn;
        ends = h.ends;
      }

  -- what is collected without an order is collected as a list's callback gives it
  pub collected_any : (f : F) (s : Reading) (r : Result (Vec A Global) ASN1Error) (s' : Reading) → CollectsInOrder Any C f s r s' → Collects C f s r s'
  collected_any f s r s' h = elim h [
    | inl x ↦ inl (lists_any f s (items_of r) s' x)
    | inr x ↦ inr (record {
      values = x.values;
      last = x.last;
      reached = x.reached.callback;
      place = x.place;
      turns = (turns_any (x.values ++ (x.last ∷ [])) (record { callback = f; bound = None }) s x.reached x.place refl x.turns).0;
      error = x.error;
      memory = x.memory;
      returned = x.returned;
      state = x.state;
    })
  ]

  pub collects_any : (f : F) (t : Tag) (s : Reading) (r : Result (Vec A Global) ASN1Error) (s' : Reading) → ReadsParts (CollectsInOrder Any C f) t s r s' →
      ReadsParts (Collects C f) t s r s'
  collects_any f t = parts_map (CollectsInOrder Any C f) (Collects C f) (λ s r s' fresh h. collected_any f s r s' h) t

  pub visits_any : (f : F) (t : Tag) (s : Reading) (r : Result (Unit {0}) ASN1Error) (s' : Reading) → ReadsParts (VisitsInOrder Any C f) t s r s' →
      ReadsParts (Visits C f) t s r s'
  visits_any f t = parts_map (VisitsInOrder Any C f) (Visits C f) (λ s r s' fresh h. record {
    items = h.items;
    lists = lists_any f s h.items s' h.lists;
    returned = h.returned;
  }) t
