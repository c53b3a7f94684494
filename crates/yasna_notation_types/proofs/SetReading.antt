-- What reading the parts of a SET does: each is chosen by its tag from the elements that were found.
use Rattle.std.proofs.Common.{◌≡◌, ◌∷◌, ◌++◌, [], ◌<◌, ◌≤◌, ℕ, zero, suc, List, Bool, true, false, Option, Some, None, Result, Ok, Err, inl, inr}
use Rattle.std.proofs.Common.{length, refl, sym, ap, ap₂, subst, ◌∙◌, append-nil, length-append, take, drop, arith}
use Rattle.std.proofs.lemmas.Bool.{not-false}
use Rattle.std.specs.Borrow.{MutBor}
use Rattle.std.specs.Fn.{Once, FnOnceReturnsAtMut}
use Rattle.std.specs.List.{AllByRecursion, Contains}
use Rattle.std.specs.Prelude.{slice_index_or, ◌⊎◌, if◌then◌else◌}
use Rattle.yasna_base.specs.declared.error.ASN1Error.{ASN1Error}
use Rattle.yasna_base.specs.declared.error.ASN1ErrorKind.TheVariants.{OutOfMemory}
use Rattle.yasna_base.specs.declared.mode.BERMode.{BERMode}
use Rattle.yasna_base.specs.declared.mode.BERMode.TheVariants.{Ber, Der, Cer}
use Rattle.yasna_base.specs.declared.tag.Tag.{Tag}
use Rattle.yasna_base.specs.Beginnings.{BeginsWithOne, BeginsBy, share_none}
use Rattle.yasna_base.specs.Choice.{EitherOf, AnyEither}
use Rattle.yasna_base.specs.Coding.{IsCoding, IsSame}
use Rattle.yasna_base.specs.Default.{TakesDefault, DetectsDefault}
use Rattle.yasna_base.specs.Error.{kind_of}
use Rattle.yasna_base.specs.Grammar.{Grammar, Members}
use Rattle.yasna_base.specs.Identifier.{BeginsWithTag}
use Rattle.yasna_base.specs.Raw.{RawValue}
use Rattle.yasna_base.proofs.Beginnings.{no_common_tag}
use Rattle.yasna_base.proofs.Identifier.{begins_once}
use Rattle.yasna_base.proofs.SetWriting.{raw_begins}
use Rattle.yasna_reader.specs.declared.callback.Outcome.{Outcome}
use Rattle.yasna_reader.specs.declared.callback.Outcome.TheVariants.{Matched, NoMatch, Failed}
use Rattle.yasna_reader.specs.declared.set.SetElement.{SetElement}
use Rattle.yasna_reader.specs.Callback.{ErrorCause, sticky, before, own, Hands, returned_of, advanced_as}
use Rattle.yasna_reader.specs.Decodes.{Explains, StickyExplains, ParsedValue, Decodes}
use Rattle.yasna_reader.specs.Parse.{ended, unless_failed}
use Rattle.yasna_reader.specs.Sequence.{place_in}
use Rattle.yasna_reader.specs.Set.{SetReading, all_taken}
use Rattle.yasna_reader.specs.SetChoice.{IsAmong}
use Rattle.yasna_reader.specs.SetLaws.{IsElementOf}
use Rattle.yasna_reader.specs.SetOptional.{ReadsSingle, ReadsTaken, ReadsNone, ReadsChosen, ReadsChosenBy, failing_on_err, some}
use Rattle.yasna_reader.specs.State.{Reading, IsFresh, Does}
use Rattle.yasna_reader.proofs.Sequences.{place_after}
use Rattle.yasna_reader.proofs.Tuples.{IsDecoder}
use Rattle.yasna_notation.specs.declared.choices.Either.{Either}
use Rattle.yasna_notation.specs.declared.choices.Either.TheVariants.{First}
use Rattle.yasna_notation.specs.Choices.{sides}
use Rattle.yasna_notation.proofs.Contents.{paired}
use Rattle.yasna.proofs.Closures.{by_run}
use Rattle.yasna_notation.specs.Elements.{AreSingleElements}
use Rattle.yasna_notation_constraints.specs.OrDefault.{accepted_by}
use Rattle.yasna_notation_constraints.proofs.ReadingDefaults.{accepted as is_taken}
use Rattle.yasna_notation_constraints.specs.TestedDefaults.{IsOneValue, some_passes, true_not_false}
use Rattle.yasna_notation_types.specs.SetParts.{Pieced, PickOf, OptionPick, DefaultPick, OrDefaultPick, OmitsDefault, PickMaybe, PickUnless, AreSetParts}
use Rattle.yasna_notation_types.specs.SetParts.{tags_precede, all_others, pick_once, others_without, tagged, omits_default}
use Rattle.yasna_notation_types.specs.SetReading.{encodings_of, AreFound, set_result, ReadsPicks, ReadsSetParts, Chose, ChoseNone, ChosenIs, ReadsSetPart, value_or_default, as_second}

-- an element was read to its end
record ReadWhole {A : Type 0} (B : A → List ℕ → Type 0) (z : Reading) (v : A) (w : Reading) : Type 0 where
  encodes : B v z.left
  state : w ≡ record z { left = [] }

-- an element wasn't read, or not to its end
record NotWhole (S : List ℕ → Type 0) (z : Reading) (e : ASN1Error) (w : Reading) : Type 0 where
  is_sticky : w.failed ≡ Some e
  none : (kind_of e ≡ OutOfMemory → ⊥) → S z.left → ⊥

abbrev SingleIs : {A : Type 0} → Grammar A → Members → Reading → Result A ASN1Error → Reading → Type 0
SingleIs B S z (Ok v) w = ReadWhole (B z.mode z.levels) z v w
SingleIs B S z (Err e) w = NotWhole (S z.mode z.levels) z e w

module _ {A : Type 0} {E : A → A → Type 0} {B : Grammar A} {S : Members} (laws : IsCoding E B S) (may_allocate : Bool) (N : Does A)
    (decoder : IsDecoder may_allocate B S N) (z : Reading) (fresh : IsFresh z) where
  -- what a sticky error of reading the element says
  error_explains : (x : Result A ASN1Error) (m : Reading) → Decodes may_allocate B S z x m → (e : ASN1Error) → ErrorCause z.left x m e → Explains may_allocate (S z.mode z.levels) z.left e
  error_explains (Ok v) m h e (sticky k) = let u : m.failed ≡ None = ap (λ (y : Reading). y.failed) h.left ∙ fresh.0 in absurd (cc)
  error_explains (Ok v) m h e (before k b f) =
      absurd (omega (arith, b, ap length h.joined, length-append h.prefix h.rest, ap (λ (y : Reading). length y.left) h.left))
  error_explains (Ok v) m h e (own k b f p) = absurd (cc)
  error_explains (Err d) m h e (sticky k) = subst (λ y. StickyExplains may_allocate (S z.mode z.levels) z.left y) k h.0.failed
  error_explains (Err d) m h e (before k b f) = absurd (omega (arith, b, h.0.further))
  error_explains (Err d) m h e (own k b f p) = let g : d ≡ e = cc in subst (λ y. Explains may_allocate (S z.mode z.levels) z.left y) g h.0.explains

  no_prefix : (e : ASN1Error) → Explains may_allocate (S z.mode z.levels) z.left e → (kind_of e ≡ OutOfMemory → ⊥) → S z.mode z.levels z.left → ⊥
  no_prefix e t q s = t.none q z.left [] (sym (append-nil z.left)) s

  -- if something is left, the whole element is no encoding
  more_left : (prefix rest : List ℕ) (x : ℕ) (xs : List ℕ) → z.left ≡ prefix ++ rest → rest ≡ x ∷ xs → S z.mode z.levels prefix → S z.mode z.levels z.left → ⊥
  more_left prefix rest x xs j e s t =
      let same = laws.prefix_free z.mode z.levels z.levels prefix z.left rest [] s t (sym j ∙ sym (append-nil z.left)) in
      omega (arith, ap length same, ap length j, length-append prefix rest, ap length e)

  matched : (v : A) (o w y : Reading) (q : Result A ASN1Error) → ParsedValue (B z.mode z.levels) z v o → y ≡ advanced_as z o → (l : List ℕ) → y.left ≡ l →
      q ≡ ended (Ok v) l → w ≡ failing_on_err q y → SingleIs B S z q w
  matched v o w y q h at l is e state = by_left l place is e
    where
      place : y.left ≡ h.rest
      place = ap (λ (k : Reading). k.left) at ∙ ap (λ (k : Reading). place_in z.left k.left) h.left ∙ ap (λ k. place_in k h.rest) h.joined ∙ place_after h.prefix h.rest

      among : S z.mode z.levels h.prefix
      among = laws.meaning.among z.mode z.levels v h.prefix h.member

      by_left : (l : List ℕ) → y.left ≡ h.rest → y.left ≡ l → q ≡ ended (Ok v) l → SingleIs B S z q w
      by_left [] p i f =
          let whole : h.prefix ≡ z.left = sym (append-nil h.prefix) ∙ ap (λ k. h.prefix ++ k) (sym i ∙ p) ∙ sym h.joined in
          let y_is : y ≡ record z { left = [] } =
          at ∙ ap {A = List ℕ} {B = Reading} (λ k. record z { left = k; tag = None; failed = None }) (sym (ap (λ (k : Reading). k.left) at) ∙ i)
          ∙ ap (λ (t : Option Tag). record z { left = []; tag = t; failed = None }) (sym fresh.1)
          ∙ ap (λ (k : Option ASN1Error). record z { left = []; failed = k }) (sym fresh.0) in
          subst (λ k. SingleIs B S z k w) (sym f)
          (record { encodes = subst (λ b. B z.mode z.levels v b) whole h.member; state = subst (λ k. w ≡ failing_on_err k y) f state ∙ y_is })
      by_left (x ∷ xs) p i f =
          subst (λ k. SingleIs B S z k w) (sym f)
          (record {
            is_sticky = ap (λ (k : Reading). k.failed) (subst (λ k. w ≡ failing_on_err k y) f state);
            none = λ q. more_left h.prefix h.rest x xs h.joined (sym p ∙ i) among;
          })

  came : (o : Outcome A) (y w : Reading) (q : Result A ASN1Error) → Hands N z o y → q ≡ ended (returned_of o) y.left → w ≡ failing_on_err q y → SingleIs B S z q w
  came (Matched v) y w q h e state =
      let d = subst (λ x. Decodes may_allocate B S z x h.left) h.comes.2 (decoder.decodes z h.own h.left fresh h.obeys) in
      matched v h.left w y q d h.comes.3 y.left refl e state
  came (NoMatch d) y w q h e state =
      let t = subst (λ x. Decodes may_allocate B S z x h.left) h.comes.3 (decoder.decodes z h.own h.left fresh h.obeys) in
      subst (λ k. SingleIs B S z k w) (sym e)
      (record { is_sticky = ap (λ (k : Reading). k.failed) (subst (λ k. w ≡ failing_on_err k y) e state); none = no_prefix d t.0.explains })
  came (Failed d) y w q h e state =
      let t = error_explains h.own h.left (decoder.decodes z h.own h.left fresh h.obeys) d h.comes.0 in
      subst (λ k. SingleIs B S z k w) (sym e)
      (record { is_sticky = ap (λ (k : Reading). k.failed) (subst (λ k. w ≡ failing_on_err k y) e state); none = no_prefix d t })

  single_is : (q : Result A ASN1Error) (w : Reading) → ReadsSingle N z q w → SingleIs B S z q w
  single_is q w h = came h.outcome h.between w q h.hands h.returned h.state

-- a list around the item at a place
whole_at : {X : Type 0} (l : List X) (i : ℕ) (x : X) → i < length l → ((d : X) → slice_index_or l i d ≡ x) → l ≡ take i l ++ (x ∷ drop (suc i) l)
whole_at [] i x p h = absurd (omega (arith, p))
whole_at (y ∷ l) zero x p h = ap (λ k. k ∷ l) (h y)
whole_at (y ∷ l) (suc i) x p h = ap (λ k. y ∷ k) (whole_at l i x (omega (arith, p)) (λ d. h d))

bytes_append : (a b : List SetElement) → encodings_of (a ++ b) ≡ encodings_of a ++ encodings_of b
bytes_append [] b = refl
bytes_append (x ∷ a) b = ap (λ k. x.bytes.now ∷ k) (bytes_append a b)

-- the tag of an element that was found is that which its bytes begin with
found_tag : (n : ℕ) (m : BERMode) (x : SetElement) (f : (v : RawValue) × IsElementOf n m x v) → BeginsWithTag x.tag x.bytes.now
found_tag n m x f = subst (λ t. BeginsWithTag t x.bytes.now) (sym f.1.tag) (raw_begins n m f.0 x.bytes.now f.1.raw).begins

-- what begins with one of some tags begins with one of them
begins_with_one : (ts : List Tag) (u : Tag) (b : List ℕ) → Contains ts u → BeginsWithTag u b → BeginsWithOne ts b
begins_with_one [] u b (k, p, e) h = absurd (omega (arith, p))
begins_with_one (t ∷ ts) u b (zero, p, e) h = inl (subst (λ x. BeginsWithTag x b) (sym e) h)
begins_with_one (t ∷ ts) u b (suc k, p, e) h = inr (begins_with_one ts u b (k, omega (arith, p), e) h)

contains_its : (ts : List Tag) (u : Tag) (b : List ℕ) → BeginsWithOne ts b → BeginsWithTag u b → Contains ts u
contains_its [] u b h g = absurd h
contains_its (t ∷ ts) u b (inl h) g = (0, omega arith, begins_once t u b h g)
contains_its (t ∷ ts) u b (inr h) g = let z = contains_its ts u b h g in (suc z.0, omega (arith, z.1), z.2)

none_has : (ts : List Tag) (n : ℕ) (m : BERMode) (l : List SetElement) → ((k : ℕ) (d : SetElement) → 0 ≤ k → k < length l → IsAmong ts (slice_index_or l k d) → ⊥) →
    AreFound n m l → AllByRecursion (λ b. BeginsWithOne ts b → ⊥) (encodings_of l)
none_has ts n m [] h f = tt
none_has ts n m (x ∷ l) h f = (
  λ b. h 0 x (omega arith) (omega arith) (contains_its ts x.tag x.bytes.now b (found_tag n m x f.0)),
  none_has ts n m l (λ k d a p. h (suc k) d (omega arith) (omega (arith, p))) f.1,
)

module _ {A : Type 0} {E : A → A → Type 0} {B : Grammar A} {S : Members} (laws : IsCoding E B S) (may_allocate : Bool) (N : Does A)
    (decoder : IsDecoder may_allocate B S N) (ts : List Tag) (c c' : SetReading) (fresh : IsFresh c.reader)
    (found : AreFound c.reader.levels c.reader.mode c.list.items) where
  taken : (r : Result (Option A) ASN1Error) → ReadsTaken N ts c r c' → ChosenIs B S ts c r c'
  taken r h = by_own h.own (single_is laws may_allocate N decoder h.single single_fresh h.own c'.reader h.reads) h.returned
    where
      place : ℕ
      place = h.takes.place

      element : SetElement
      element = h.takes.element

      l : List SetElement
      l = c.list.items

      l_is : l ≡ take place l ++ (element ∷ drop (suc place) l)
      l_is = whole_at l place element h.takes.first.inside (λ d. h.takes.found d)

      single_fresh : IsFresh h.single
      single_fresh = (ap (λ (k : Reading). k.failed) h.takes.state ∙ fresh.0, ap (λ (k : Reading). k.tag) h.takes.state)

      split : ((v : RawValue) × IsElementOf c.reader.levels c.reader.mode element v) ×
          AreFound c.reader.levels c.reader.mode (take place l ++ drop (suc place) l)
      split = all_others (λ (x : SetElement). (v : RawValue) × IsElementOf c.reader.levels c.reader.mode x v) (take place l) element (drop (suc place) l)
          (subst (AreFound c.reader.levels c.reader.mode) l_is found)

      whole_is : encodings_of l ≡ encodings_of (take place l) ++ (element.bytes.now ∷ encodings_of (drop (suc place) l))
      whole_is = ap encodings_of l_is ∙ bytes_append (take place l) (element ∷ drop (suc place) l)

      others_are : encodings_of c'.list.items ≡ encodings_of (take place l) ++ encodings_of (drop (suc place) l)
      others_are = ap encodings_of h.takes.others ∙ bytes_append (take place l) (drop (suc place) l)

      tag_is : BeginsWithOne ts element.bytes.now
      tag_is =
          begins_with_one ts element.tag element.bytes.now (subst (λ (x : SetElement). IsAmong ts x) (h.takes.found element) (h.takes.first.here element))
          (found_tag c.reader.levels c.reader.mode element split.0)

      left_is : h.single.left ≡ element.bytes.now
      left_is = ap (λ (k : Reading). k.left) h.takes.state

      mode_is : h.single.mode ≡ c.reader.mode
      mode_is = ap (λ (k : Reading). k.mode) h.takes.state

      levels_is : h.single.levels ≡ c.reader.levels
      levels_is = ap (λ (k : Reading). k.levels) h.takes.state

      by_own : (q : Result A ASN1Error) → SingleIs B S h.single q c'.reader → r ≡ some q → ChosenIs B S ts c r c'
      by_own (Ok v) k e = subst (λ x. ChosenIs B S ts c x c') (sym e) (record {
        before = encodings_of (take place l);
        one = element.bytes.now;
        after = encodings_of (drop (suc place) l);
        whole = whole_is;
        others = others_are;
        has_tag = tag_is;
        encodes = subst (λ (y : Reading). B y.mode y.levels v y.left) h.takes.state k.encodes;
        reader = k.state ∙ ap (λ (y : Reading). record y { left = [] }) h.takes.state
            ∙ ap (λ (u : Option Tag). record c.reader { left = []; tag = u }) (sym fresh.1);
        found = subst (AreFound c.reader.levels c.reader.mode) (sym h.takes.others) split.1;
      })
      by_own (Err d) k e = subst (λ x. ChosenIs B S ts c x c') (sym e) (record {
        before = encodings_of (take place l);
        one = element.bytes.now;
        after = encodings_of (drop (suc place) l);
        whole = whole_is;
        has_tag = tag_is;
        none = subst (λ (y : Reading). (kind_of d ≡ OutOfMemory → ⊥) → S y.mode y.levels y.left → ⊥) h.takes.state k.none;
        is_sticky = k.is_sticky;
      })

  none_chosen : (r : Result (Option A) ASN1Error) → ReadsNone ts c r c' → ChosenIs B S ts c r c'
  none_chosen r h = subst (λ x. ChosenIs B S ts c x c') (sym h.returned) (record {
    none = none_has ts c.reader.levels c.reader.mode c.list.items h.none found;
    others = h.others;
    reader = h.state ∙ ap (λ (u : Option Tag). record c.reader { tag = u }) (sym fresh.1);
  })

  chosen_is : (r : Result (Option A) ASN1Error) → ReadsChosen N ts c r c' → ChosenIs B S ts c r c'
  chosen_is r h = elim (subst (λ k. ReadsChosenBy k N ts c r c') fresh.0 h.reads) [
    | inl x ↦ taken r x
    | inr x ↦ none_chosen r x
  ]

-- the result of a SET of parts, of which the first was read before
paired_result : {A V : Type 0} (v : A) (r : Result V ASN1Error) (k : Option ASN1Error) (l : List SetElement) →
    paired v (unless_failed k (all_taken r l)) ≡ unless_failed k (all_taken (paired v r) l)
paired_result v r (Some e) l = refl
paired_result v (Err e) None l = refl
paired_result v (Ok w) None [] = refl
paired_result v (Ok w) None (x ∷ l) = refl

-- a part that is chosen is read as the closure's calls read it
pub chosen_called : {A F : Type 0} (g : Once F (MutBor Reading × Unit {0}) (Result A ASN1Error × (MutBor Reading × Unit {0}))) (f : F) (N : Does A)
    (ts : List Tag) (c : SetReading) (r : Result (Option A) ASN1Error) (c' : SetReading) → ReadsChosen (FnOnceReturnsAtMut g f) ts c r c' →
    ((p q : MutBor Reading) (x : Result A ASN1Error) → g.post f (p, tt) (x, (q, tt)) → N p.now x q.now) → ReadsChosen N ts c r c'
chosen_called {A} g f N ts c r c' h obeys = record { reads = by_sticky c.reader.failed h.reads }
  where
    prefix_free : (z : Reading) (q : Result A ASN1Error) (w : Reading) → ReadsSingle (FnOnceReturnsAtMut g f) z q w → ReadsSingle N z q w
    prefix_free z q w k = record {
      outcome = k.outcome;
      between = k.between;
      hands = record { own = k.hands.own; left = k.hands.left; obeys = by_run N obeys z k.hands.own k.hands.left k.hands.obeys; comes = k.hands.comes };
      returned = k.returned;
      state = k.state;
    }

    by_sticky : (k : Option ASN1Error) → ReadsChosenBy k (FnOnceReturnsAtMut g f) ts c r c' → ReadsChosenBy k N ts c r c'
    by_sticky (Some e) x = x
    by_sticky None (inl x) = inl (record { single = x.single; takes = x.takes; own = x.own; reads = prefix_free x.single x.own c'.reader x.reads; returned = x.returned })
    by_sticky None (inr x) = inr x

-- a part with these tags
pub single_read : {A F : Type 0} {E : A → A → Type 0} {B : Grammar A} {S : Members}
    (g : Once F (MutBor Reading × Unit {0}) (Result A ASN1Error × (MutBor Reading × Unit {0}))) (f : F) (laws : IsCoding E B S) (may_allocate : Bool) (N : Does A) →
    IsDecoder may_allocate B S N → (ts : List Tag) (c : SetReading) (r : Result (Option A) ASN1Error) (c' : SetReading) →
    ReadsChosen (FnOnceReturnsAtMut g f) ts c r c' →
    ((p q : MutBor Reading) (x : Result A ASN1Error) → g.post f (p, tt) (x, (q, tt)) → N p.now x q.now) → ReadsSetPart ts B S c r c'
single_read g f laws may_allocate N decoder ts c r c' h obeys = record {
  reads = λ fresh found. chosen_is laws may_allocate N decoder ts c c' fresh found r (chosen_called g f N ts c r c' h obeys);
}

-- the same elements
same_set : {A : Type 0} (B : Grammar A) (S : Members) (ts : List Tag) (c c1 : SetReading) (r : Result (Option A) ASN1Error) (c' : SetReading) →
    c1.list.items ≡ c.list.items → c1.reader ≡ c.reader → ChosenIs B S ts c1 r c' → ChosenIs B S ts c r c'
same_set B S ts c c1 (Ok (Some v)) c' items is k = record {
  before = k.before;
  one = k.one;
  after = k.after;
  whole = ap encodings_of (sym items) ∙ k.whole;
  others = k.others;
  has_tag = k.has_tag;
  encodes = subst (λ (z : Reading). B z.mode z.levels v k.one) is k.encodes;
  reader = k.reader ∙ ap (λ (z : Reading). record z { left = [] }) is;
  found = subst (λ (z : Reading). AreFound z.levels z.mode c'.list.items) is k.found;
}
same_set B S ts c c1 (Ok None) c' items is k = record {
  none = subst (λ l. AllByRecursion (λ b. BeginsWithOne ts b → ⊥) (encodings_of l)) items k.none;
  others = k.others ∙ items;
  reader = k.reader ∙ is;
}
same_set B S ts c c1 (Err e) c' items is k = record {
  before = k.before;
  one = k.one;
  after = k.after;
  whole = ap encodings_of (sym items) ∙ k.whole;
  has_tag = k.has_tag;
  none = subst (λ (z : Reading). (kind_of e ≡ OutOfMemory → ⊥) → S z.mode z.levels k.one → ⊥) is k.none;
  is_sticky = k.is_sticky;
}

one_first : (ts us : List Tag) (b : List ℕ) → BeginsWithOne ts b → BeginsWithOne (ts ++ us) b
one_first [] us b h = absurd h
one_first (t ∷ ts) us b (inl h) = inl h
one_first (t ∷ ts) us b (inr h) = inr (one_first ts us b h)

one_second : (ts us : List Tag) (b : List ℕ) → BeginsWithOne us b → BeginsWithOne (ts ++ us) b
one_second [] us b h = h
one_second (t ∷ ts) us b h = inr (one_second ts us b h)

one_of_both : (ts us : List Tag) (b : List ℕ) → BeginsWithOne (ts ++ us) b → BeginsWithOne ts b ⊎ BeginsWithOne us b
one_of_both [] us b h = inr h
one_of_both (t ∷ ts) us b (inl h) = inl (inl h)
one_of_both (t ∷ ts) us b (inr h) = elim (one_of_both ts us b h) [ inl x ↦ inl (inr x) | inr x ↦ inr x ]

none_of_both : (ts us : List Tag) (ps : List (List ℕ)) → AllByRecursion (λ b. BeginsWithOne ts b → ⊥) ps → AllByRecursion (λ b. BeginsWithOne us b → ⊥) ps →
    AllByRecursion (λ b. BeginsWithOne (ts ++ us) b → ⊥) ps
none_of_both ts us [] h k = tt
none_of_both ts us (p ∷ ps) h k = (
  λ b. elim (one_of_both ts us p b) [ inl x ↦ h.0 x | inr x ↦ k.0 x ],
  none_of_both ts us ps h.1 k.1,
)

-- a value of one of two types
abbrev pub ChoiceOf : {A V : Type 0} → Grammar A → Grammar V → Grammar (Either A V)
ChoiceOf B C m n v b = EitherOf B C m n (sides v) b

-- a part that is a CHOICE, of which the types have different tags
module _ {A V : Type 0} {ts us : List Tag} (B : Grammar A) (C : Grammar V) {S Q : Members} (first_begins : BeginsBy ts S) (other_begins : BeginsBy us Q)
    (none : share_none ts us ≡ true) (c : SetReading) (r : Result (Option A) ASN1Error) (c1 : SetReading) (h : ReadsSetPart ts B S c r c1) where
  -- a value of the first type
  pub first_read : (o : Option A) (v : A) → r ≡ Ok o → o ≡ Some v → ReadsSetPart (ts ++ us) (ChoiceOf B C) (AnyEither S Q) c (Ok (Some (First v))) c1
  first_read o v is one = record {
    reads = λ fresh found.
        let k = subst (λ q. ChosenIs B S ts c q c1) (is ∙ ap (λ z. Ok z) one) (h.reads fresh found) in
        record {
          before = k.before;
          one = k.one;
          after = k.after;
          whole = k.whole;
          others = k.others;
          has_tag = one_first ts us k.one k.has_tag;
          encodes = k.encodes;
          reader = k.reader;
          found = k.found;
        };
  }

  -- an element of the first type that is rejected
  pub first_wrong : (e : ASN1Error) → r ≡ Err e → ReadsSetPart (ts ++ us) (ChoiceOf B C) (AnyEither S Q) c (Err e) c1
  first_wrong e is = record {
    reads = λ fresh found.
        let k = subst (λ q. ChosenIs B S ts c q c1) is (h.reads fresh found) in
        record {
          before = k.before;
          one = k.one;
          after = k.after;
          whole = k.whole;
          has_tag = one_first ts us k.one k.has_tag;
          none = λ q s. elim s [
            | inl p ↦ k.none q p
            | inr p ↦ no_common_tag ts us k.one none k.has_tag (other_begins.at c.reader.mode c.reader.levels k.one p)
          ];
          is_sticky = k.is_sticky;
        };
  }

  other_is : (r2 : Result (Option V) ASN1Error) (c2 : SetReading) → ChoseNone ts c c1 → ChosenIs C Q us c r2 c2 →
      ChosenIs (ChoiceOf B C) (AnyEither S Q) (ts ++ us) c (as_second r2) c2
  other_is (Ok (Some w)) c2 i k = record {
    before = k.before;
    one = k.one;
    after = k.after;
    whole = k.whole;
    others = k.others;
    has_tag = one_second ts us k.one k.has_tag;
    encodes = k.encodes;
    reader = k.reader;
    found = k.found;
  }
  other_is (Ok None) c2 i k = record { none = none_of_both ts us (encodings_of c.list.items) i.none k.none; others = k.others; reader = k.reader }
  other_is (Err e) c2 i k = record {
    before = k.before;
    one = k.one;
    after = k.after;
    whole = k.whole;
    has_tag = one_second ts us k.one k.has_tag;
    none = λ q s. elim s [
      | inl p ↦ no_common_tag ts us k.one none (first_begins.at c.reader.mode c.reader.levels k.one p) k.has_tag
      | inr p ↦ k.none q p
    ];
    is_sticky = k.is_sticky;
  }

  -- a value of the others
  pub other_read : (o : Option A) → r ≡ Ok o → o ≡ None → (r2 : Result (Option V) ASN1Error) (c2 : SetReading) → ReadsSetPart us C Q c1 r2 c2 →
      ReadsSetPart (ts ++ us) (ChoiceOf B C) (AnyEither S Q) c (as_second r2) c2
  other_read o is nothing r2 c2 k = record {
    reads = λ fresh found.
        let i = subst (λ q. ChosenIs B S ts c q c1) (is ∙ ap (λ z. Ok z) nothing) (h.reads fresh found) in
        let now = subst IsFresh (sym i.reader) fresh in
        let there = subst (λ (z : Reading). AreFound z.levels z.mode c1.list.items) (sym i.reader)
        (subst (AreFound c.reader.levels c.reader.mode) (sym i.others) found) in
        other_is r2 c2 i (same_set C Q us c c1 r2 c2 i.others i.reader (k.reads now there));
  }

module _ {A V : Type 0} {ts us : List Tag} {E : A → A → Type 0} {F : V → V → Type 0} {B : Grammar A} {C : Grammar V} {S M : Members}
    {P : Pieced V} (x : IsCoding E B S) (begins : BeginsBy ts S) (whole : AreSingleElements S)
    (y : AreSetParts us F C P M) (above : tags_precede ts us ≡ true) (none : share_none ts us ≡ true)
    (c : SetReading) (c1 : SetReading) where
  abbrev m : BERMode
  m = c.reader.mode

  abbrev n : ℕ
  n = c.reader.levels

  abbrev ps : List (List ℕ)
  ps = encodings_of c.list.items

  -- the part's encoding is the element that was chosen
  same_one : (v : A × V) (p : PickOf B P m n v ps) (a : List (List ℕ)) (b : List ℕ) (d : List (List ℕ)) → ps ≡ a ++ (b ∷ d) → BeginsWithOne ts b →
      (a ≡ p.before) × (b ≡ p.one) × (d ≡ p.after)
  same_one v p a b d e k = pick_once (BeginsWithOne ts) a p.before b p.one d p.after (sym e ∙ p.joined) k
      (others_without x begins whole y above none m n v.1 (p.before ++ p.after) p.more)

  -- what has no part holds no element of its tags
  not_without : (w : V) (a : List (List ℕ)) (b : List ℕ) (d : List (List ℕ)) → ps ≡ a ++ (b ∷ d) → BeginsWithOne ts b → P m n w ps → ⊥
  not_without w a b d e k p =
      (all_others (λ z. BeginsWithOne ts z → ⊥) a b d (subst (AllByRecursion (λ z. BeginsWithOne ts z → ⊥)) e
      (others_without x begins whole y above none m n w ps p))).0 k

  not_within : (v : A × V) → AllByRecursion (λ z. BeginsWithOne ts z → ⊥) ps → PickOf B P m n v ps → ⊥
  not_within v without p =
      (all_others (λ z. BeginsWithOne ts z → ⊥) p.before p.one p.after (subst (AllByRecursion (λ z. BeginsWithOne ts z → ⊥)) p.joined without)).0
      (tagged x begins whole y above none m n v.0 p.one p.here)

  wrong_none : (e : ASN1Error) → ChosenIs B S ts c (Err e) c1 → (kind_of e ≡ OutOfMemory → ⊥) → (v : A × V) → PickOf B P m n v ps → ⊥
  wrong_none e k q v p =
      let z = same_one v p k.before k.one k.after k.whole k.has_tag in
      k.none q (subst (λ b. S m n b) (sym z.1) (x.meaning.among m n v.0 p.one p.here))

  result_wrong : {U : Type 0} (e : ASN1Error) → ChosenIs B S ts c (Err e) c1 → set_result {A = U} (Err e) c1 ≡ Err e
  result_wrong e k = ap (λ z. unless_failed z (Err e)) k.is_sticky

  result_unread : {U : Type 0} (e : ASN1Error) → c1.reader.failed ≡ None → set_result {A = U} (Err e) c1 ≡ Err e
  result_unread e k = ap (λ z. unless_failed z (Err e)) k

  -- what was read of the others
  after : (v : A) (r2 : Result V ASN1Error) (c2 : SetReading) → IsFresh c.reader → Chose (B m n) ts c v c1 → ReadsSetParts P c1 r2 c2 →
      ReadsPicks (P m n) (encodings_of c1.list.items) (set_result r2 c2)
  after v r2 c2 fresh k s =
      let is = k.reader in
      let now : IsFresh c1.reader = (ap (λ (z : Reading). z.failed) is ∙ fresh.0, ap (λ (z : Reading). z.tag) is ∙ fresh.1) in
      let there = subst (λ (z : Reading). AreFound z.levels z.mode c1.list.items) (sym is) k.found in
      subst (λ (z : Reading). ReadsPicks (P z.mode z.levels) (encodings_of c1.list.items) (set_result r2 c2)) is (s.reads now there)

  after_none : (r2 : Result V ASN1Error) (c2 : SetReading) → IsFresh c.reader → AreFound n m c.list.items → ChoseNone ts c c1 → ReadsSetParts P c1 r2 c2 →
      ReadsPicks (P m n) ps (set_result r2 c2)
  after_none r2 c2 fresh found k s =
      let is = k.reader in
      let now = subst IsFresh (sym is) fresh in
      let there = subst (λ (z : Reading). AreFound z.levels z.mode c1.list.items) (sym is) (subst (AreFound n m) (sym k.others) found) in
      subst (λ l. ReadsPicks (P m n) (encodings_of l) (set_result r2 c2)) k.others
      (subst (λ (z : Reading). ReadsPicks (P z.mode z.levels) (encodings_of c1.list.items) (set_result r2 c2)) is (s.reads now there))

  both : (v : A) (z : Result V ASN1Error) → Chose (B m n) ts c v c1 → ReadsPicks (P m n) (encodings_of c1.list.items) z → ReadsPicks (PickOf B P m n) ps (paired v z)
  both v (Ok w) k i = record {
    before = k.before;
    one = k.one;
    after = k.after;
    joined = k.whole;
    here = k.encodes;
    more = subst (λ qs. P m n w qs) k.others i;
  }
  both v (Err e) k i = λ q u p.
      let z = same_one u p k.before k.one k.after k.whole k.has_tag in
      i q u.1 (subst (λ qs. P m n u.1 qs) (sym (k.others ∙ ap₂ (λ a b. a ++ b) z.0 z.2)) p.more)

  module _ (r : Result (Option A) ASN1Error) (h : ReadsSetPart ts B S c r c1) where
    chosen : (q : Result (Option A) ASN1Error) → r ≡ q → IsFresh c.reader → AreFound n m c.list.items → ChosenIs B S ts c q c1
    chosen q is fresh found = subst (λ k. ChosenIs B S ts c k c1) is (h.reads fresh found)

    -- a mandatory part whose element is rejected
    pub part_wrong : (e : ASN1Error) → r ≡ Err e → ReadsSetParts (PickOf B P) c (Err e) c1
    part_wrong e is = record {
      reads = λ fresh found.
          let k = chosen (Err e) is fresh found in
          subst (ReadsPicks (PickOf B P m n) ps) (sym (result_wrong e k)) (λ q v p. wrong_none e k q v p);
    }

    -- a mandatory part that is missing
    pub part_missing : (o : Option A) → r ≡ Ok o → o ≡ None → (e : ASN1Error) → ReadsSetParts (PickOf B P) c (Err e) c1
    part_missing o is nothing e = record {
      reads = λ fresh found.
          let k = chosen (Ok None) (is ∙ ap (λ z. Ok z) nothing) fresh found in
          subst (ReadsPicks (PickOf B P m n) ps) (sym (result_unread e (ap (λ (z : Reading). z.failed) k.reader ∙ fresh.0))) (λ q v p. not_within v k.none p);
    }

    -- a mandatory part that was read, before the others
    pub part_read : (o : Option A) (v : A) → r ≡ Ok o → o ≡ Some v → (r2 : Result V ASN1Error) (c2 : SetReading) → ReadsSetParts P c1 r2 c2 →
        ReadsSetParts (PickOf B P) c (paired v r2) c2
    part_read o v is one r2 c2 s = record {
      reads = λ fresh found.
          let k = chosen (Ok (Some v)) (is ∙ ap (λ z. Ok z) one) fresh found in
          subst (ReadsPicks (PickOf B P m n) ps) (paired_result v r2 c2.reader.failed c2.list.items) (both v (set_result r2 c2) k (after v r2 c2 fresh k s));
    }

    maybe_wrong : (e : ASN1Error) → ChosenIs B S ts c (Err e) c1 → (kind_of e ≡ OutOfMemory → ⊥) → (o : Option A) (w : V) → PickMaybe (B m n) (P m n w) o ps → ⊥
    maybe_wrong e k q (Some v) w p = wrong_none e k q (v, w) p
    maybe_wrong e k q None w p = not_without w k.before k.one k.after k.whole k.has_tag p

    maybe_both : (v : A) (z : Result V ASN1Error) → Chose (B m n) ts c v c1 → ReadsPicks (P m n) (encodings_of c1.list.items) z →
        ReadsPicks (OptionPick B P m n) ps (paired (Some v) z)
    maybe_both v (Ok w) k i = both v (Ok w) k i
    maybe_both v (Err e) k i = λ q u p. by_part q u.0 u.1 p
      where
        by_part : (kind_of e ≡ OutOfMemory → ⊥) → (o : Option A) (w : V) → PickMaybe (B m n) (P m n w) o ps → ⊥
        by_part q (Some u) w p = both v (Err e) k i q (u, w) p
        by_part q None w p = not_without w k.before k.one k.after k.whole k.has_tag p

    maybe_none : (z : Result V ASN1Error) → ChoseNone ts c c1 → ReadsPicks (P m n) ps z → ReadsPicks (OptionPick B P m n) ps (paired None z)
    maybe_none (Ok w) k i = i
    maybe_none (Err e) k i = λ q u p. by_part q u.0 u.1 p
      where
        by_part : (kind_of e ≡ OutOfMemory → ⊥) → (o : Option A) (w : V) → PickMaybe (B m n) (P m n w) o ps → ⊥
        by_part q (Some u) w p = not_within (u, w) k.none p
        by_part q None w p = i q w p

    -- an OPTIONAL part whose element is rejected
    pub option_wrong : (e : ASN1Error) → r ≡ Err e → ReadsSetParts (OptionPick B P) c (Err e) c1
    option_wrong e is = record {
      reads = λ fresh found.
          let k = chosen (Err e) is fresh found in
          subst (ReadsPicks (OptionPick B P m n) ps) (sym (result_wrong e k)) (λ q v p. maybe_wrong e k q v.0 v.1 p);
    }

    -- an OPTIONAL part that was read or is omitted, before the others
    pub option_read : (o : Option A) → r ≡ Ok o → (r2 : Result V ASN1Error) (c2 : SetReading) → ReadsSetParts P c1 r2 c2 →
        ReadsSetParts (OptionPick B P) c (paired o r2) c2
    option_read (Some v) is r2 c2 s = record {
      reads = λ fresh found.
          let k = chosen (Ok (Some v)) is fresh found in
          subst (ReadsPicks (OptionPick B P m n) ps) (paired_result (Some v) r2 c2.reader.failed c2.list.items)
          (maybe_both v (set_result r2 c2) k (after v r2 c2 fresh k s));
    }
    option_read None is r2 c2 s = record {
      reads = λ fresh found.
          let k = chosen (Ok None) is fresh found in
          subst (ReadsPicks (OptionPick B P m n) ps) (paired_result None r2 c2.reader.failed c2.list.items)
          (maybe_none (set_result r2 c2) k (after_none r2 c2 fresh found k s));
    }

-- whether the default that was read is rejected
rejected : {A : Type 0} (is : A → Bool) (d : A) (m : BERMode) (v : A) → value_or_default is d m (Some v) ≡ None → (TakesDefault m → ⊥) × (is v ≡ true)
rejected is d Ber v e = absurd (cc)
rejected is d Der v e = (λ t. t, by_test (is v) e)
  where
    by_test : (b : Bool) → (if b then None else Some v) ≡ None → b ≡ true
    by_test true e = refl
    by_test false e = absurd (cc)
rejected is d Cer v e = (λ t. t, by_test (is v) e)
  where
    by_test : (b : Bool) → (if b then None else Some v) ≡ None → b ≡ true
    by_test true e = refl
    by_test false e = absurd (cc)

accepted : {A : Type 0} (is : A → Bool) (d : A) (m : BERMode) (v w : A) → value_or_default is d m (Some v) ≡ Some w →
    (v ≡ w) × (TakesDefault m ⊎ (is v ≡ false))
accepted is d Ber v w e = (let f : v ≡ w = cc in f, inl tt)
accepted {A} is d Der v w e = by_test (is v) refl e
  where
    by_test : (b : Bool) → is v ≡ b → (if b then None else Some v) ≡ Some w → (v ≡ w) × (TakesDefault Der ⊎ (is v ≡ false))
    by_test true f e = absurd (cc)
    by_test false f e = (let g : v ≡ w = cc in g, inr f)
accepted {A} is d Cer v w e = by_test (is v) refl e
  where
    by_test : (b : Bool) → is v ≡ b → (if b then None else Some v) ≡ Some w → (v ≡ w) × (TakesDefault Cer ⊎ (is v ≡ false))
    by_test true f e = absurd (cc)
    by_test false f e = (let g : v ≡ w = cc in g, inr f)

-- a value that the mode rejects is the default, and the mode takes none
untaken : {A : Type 0} (is : A → Bool) (m : BERMode) (v : A) → accepted_by (some_passes is) m (Some v) ≡ false → (TakesDefault m → ⊥) × (is v ≡ true)
untaken is Ber v e = absurd (cc)
untaken is Der v e = (λ t. t, not-false (is v) e)
untaken is Cer v e = (λ t. t, not-false (is v) e)

-- an omitted part is accepted
none_taken : {A : Type 0} (is : A → Bool) (m : BERMode) → accepted_by (some_passes is) m None ≡ true
none_taken is Ber = refl
none_taken is Der = refl
none_taken is Cer = refl

-- what equals a value that is the default is the default too
pub detected : {A : Type 0} {E : A → A → Type 0} (is : A → Bool) (d : A) → DetectsDefault E is d → IsSame E → (v w : A) → E v w → is v ≡ true → is w ≡ true
detected is d detects equal v w same e = (detects w).1 (equal.transitive w v d (equal.symmetric v w same) ((detects v).0 e))

-- what equals one of the values that pass a test passes it too, if these are one value
pub one_passes : {A : Type 0} {E : A → A → Type 0} (is : A → Bool) → IsOneValue E is → IsSame E → (v w : A) → E v w → is v ≡ true → is w ≡ true
one_passes is one equal v w same e = (one v e w).1 (equal.symmetric v w same)

module _ {A V : Type 0} {ts us : List Tag} {E : A → A → Type 0} {F : V → V → Type 0} {B : Grammar A} {C : Grammar V} {S M : Members}
    {P : Pieced V} (is : A → Bool) (passes : (v w : A) → E v w → is v ≡ true → is w ≡ true) (x : IsCoding E B S) (begins : BeginsBy ts S)
    (whole : AreSingleElements S) (y : AreSetParts us F C P M) (above : tags_precede ts us ≡ true) (none : share_none ts us ≡ true)
    (c : SetReading) (c1 : SetReading) (r : Result (Option A) ASN1Error) (h : ReadsSetPart ts B S c r c1) where
  abbrev k : BERMode
  k = c.reader.mode

  abbrev l : ℕ
  l = c.reader.levels

  abbrev qs : List (List ℕ)
  qs = encodings_of c.list.items

  abbrev z : IsCoding E (OmitsDefault is B) S
  z = omits_default is x

  default_is : (q : Result (Option A) ASN1Error) → r ≡ q → IsFresh c.reader → AreFound l k c.list.items → ChosenIs B S ts c q c1
  default_is q e fresh found = subst (λ w. ChosenIs B S ts c w c1) e (h.reads fresh found)

  wrong_default : (e : ASN1Error) → ChosenIs B S ts c (Err e) c1 → (kind_of e ≡ OutOfMemory → ⊥) → (v : A × V) → DefaultPick is B P k l v qs → ⊥
  wrong_default e i q v (inl p) = wrong_none z begins whole y above none c c1 e i q v p
  wrong_default e i q v (inr p) = not_without z begins whole y above none c c1 v.1 i.before i.one i.after i.whole i.has_tag p.0

  -- a part with a default whose element is rejected
  pub default_wrong : (e : ASN1Error) → r ≡ Err e → ReadsSetParts (DefaultPick is B P) c (Err e) c1
  default_wrong e at = record {
    reads = λ fresh found.
        let i = default_is (Err e) at fresh found in
        subst (ReadsPicks (DefaultPick is B P k l) qs) (sym (result_wrong z begins whole y above none c c1 e i)) (λ q v p. wrong_default e i q v p);
  }

  -- the default that was read encodes no value, if the mode rejects it
  not_default : (v : A) → Chose (B k l) ts c v c1 → (TakesDefault k → ⊥) → is v ≡ true → (u : A × V) → DefaultPick is B P k l u qs → ⊥
  not_default v i never e u (inl p) =
      let o = same_one z begins whole y above none c c1 u p i.before i.one i.after i.whole i.has_tag in
      let same = x.meaning.exact k l l v u.0 p.one (subst (λ b. B k l v b) o.1 i.encodes) p.here.0 in
      let also = passes v u.0 same e in
      elim p.here.1 [
        | inl t ↦ never t
        | inr f ↦ true_not_false (is u.0) also f
      ]
  not_default v i never e u (inr p) = not_without z begins whole y above none c c1 u.1 i.before i.one i.after i.whole i.has_tag p.0

  -- the encoding of a default, which the mode rejects
  pub default_rejected : (d : A) (o : Option A) → r ≡ Ok o → value_or_default is d c1.reader.mode o ≡ None → (e : ASN1Error) → ReadsSetParts (DefaultPick is B P) c (Err e) c1
  default_rejected d (Some v) at none_is e = record {
    reads = λ fresh found.
        let i = default_is (Ok (Some v)) at fresh found in
        let mode = ap (λ (w : Reading). w.mode) i.reader in
        let j = rejected is d k v (subst (λ o. value_or_default is d o (Some v) ≡ None) mode none_is) in
        subst (ReadsPicks (DefaultPick is B P k l) qs)
        (sym (result_unread z begins whole y above none c c1 e (ap (λ (w : Reading). w.failed) i.reader ∙ fresh.0)))
        (λ q u p. not_default v i j.0 j.1 u p);
  }
  default_rejected d None at none_is e = absurd (cc)

  -- an element that was chosen, and isn't that of the default
  omitting : (v : A) → Chose (B k l) ts c v c1 → TakesDefault k ⊎ (is v ≡ false) → Chose (OmitsDefault is B k l) ts c v c1
  omitting v i t = record {
    before = i.before;
    one = i.one;
    after = i.after;
    whole = i.whole;
    others = i.others;
    has_tag = i.has_tag;
    encodes = (i.encodes, t);
    reader = i.reader;
    found = i.found;
  }

  default_both : (v : A) (w : Result V ASN1Error) → Chose (OmitsDefault is B k l) ts c v c1 → ReadsPicks (P k l) (encodings_of c1.list.items) w →
      ReadsPicks (DefaultPick is B P k l) qs (paired v w)
  default_both v (Ok w) i j = inl (both z begins whole y above none c c1 v (Ok w) i j)
  default_both v (Err e) i j = λ q u p. by_part q u p
    where
      by_part : (kind_of e ≡ OutOfMemory → ⊥) → (u : A × V) → DefaultPick is B P k l u qs → ⊥
      by_part q u (inl p) = both z begins whole y above none c c1 v (Err e) i j q u p
      by_part q u (inr p) = not_without z begins whole y above none c c1 u.1 i.before i.one i.after i.whole i.has_tag p.0

  default_none : (d : A) → is d ≡ true → (w : Result V ASN1Error) → ChoseNone ts c c1 → ReadsPicks (P k l) qs w → ReadsPicks (DefaultPick is B P k l) qs (paired d w)
  default_none d is_default (Ok w) i j = inr (j, is_default)
  default_none d is_default (Err e) i j = λ q u p. by_part q u p
    where
      by_part : (kind_of e ≡ OutOfMemory → ⊥) → (u : A × V) → DefaultPick is B P k l u qs → ⊥
      by_part q u (inl p) = not_within z begins whole y above none c c1 u i.none p
      by_part q u (inr p) = j q u.1 p.0

  -- a part with a default that was read or is omitted, before the others
  pub default_read : (d : A) → is d ≡ true → (o : Option A) (w : A) → r ≡ Ok o → value_or_default is d c1.reader.mode o ≡ Some w →
      (r2 : Result V ASN1Error) (c2 : SetReading) → ReadsSetParts P c1 r2 c2 → ReadsSetParts (DefaultPick is B P) c (paired w r2) c2
  default_read d is_default (Some v) w at value r2 c2 s = record {
    reads = λ fresh found.
        let i = default_is (Ok (Some v)) at fresh found in
        let mode = ap (λ (u : Reading). u.mode) i.reader in
        let j = accepted is d k v w (subst (λ o. value_or_default is d o (Some v) ≡ Some w) mode value) in
        subst (λ u. ReadsPicks (DefaultPick is B P k l) qs (set_result (paired u r2) c2)) j.0
        (subst (ReadsPicks (DefaultPick is B P k l) qs) (paired_result v r2 c2.reader.failed c2.list.items)
        (default_both v (set_result r2 c2) (omitting v i j.1) (after x begins whole y above none c c1 v r2 c2 fresh i s)));
  }
  default_read d is_default None w at value r2 c2 s = record {
    reads = λ fresh found.
        let i = default_is (Ok None) at fresh found in
        let same : d ≡ w = cc in
        subst (λ u. ReadsPicks (DefaultPick is B P k l) qs (set_result (paired u r2) c2)) same
        (subst (ReadsPicks (DefaultPick is B P k l) qs) (paired_result d r2 c2.reader.failed c2.list.items)
        (default_none d is_default (set_result r2 c2) i (after_none x begins whole y above none c c1 r2 c2 fresh found i s)));
  }

  wrong_or_default : (e : ASN1Error) → ChosenIs B S ts c (Err e) c1 → (kind_of e ≡ OutOfMemory → ⊥) → (o : Option A) (w : V) →
      PickUnless is B P k l o w qs → ⊥
  wrong_or_default e i q (Some v) w p = wrong_default e i q (v, w) p
  wrong_or_default e i q None w p = not_without z begins whole y above none c c1 w i.before i.one i.after i.whole i.has_tag p

  -- a part whose value is none for the default, and whose element is rejected
  pub or_default_wrong : (e : ASN1Error) → r ≡ Err e → ReadsSetParts (OrDefaultPick is B P) c (Err e) c1
  or_default_wrong e at = record {
    reads = λ fresh found.
        let i = default_is (Err e) at fresh found in
        subst (ReadsPicks (OrDefaultPick is B P k l) qs) (sym (result_wrong z begins whole y above none c c1 e i)) (λ q v p. wrong_or_default e i q v.0 v.1 p);
  }

  not_or_default : (v : A) → Chose (B k l) ts c v c1 → (TakesDefault k → ⊥) → is v ≡ true → (o : Option A) (w : V) → PickUnless is B P k l o w qs → ⊥
  not_or_default v i never e (Some u) w p = not_default v i never e (u, w) p
  not_or_default v i never e None w p = not_without z begins whole y above none c c1 w i.before i.one i.after i.whole i.has_tag p

  -- the encoding of such a default, which the mode rejects
  pub or_default_rejected : (o : Option A) → r ≡ Ok o → accepted_by (some_passes is) c1.reader.mode o ≡ false → (e : ASN1Error) → ReadsSetParts (OrDefaultPick is B P) c (Err e) c1
  or_default_rejected (Some v) at not_taken e = record {
    reads = λ fresh found.
        let i = default_is (Ok (Some v)) at fresh found in
        let mode = ap (λ (w : Reading). w.mode) i.reader in
        let j = untaken is k v (subst (λ o. accepted_by (some_passes is) o (Some v) ≡ false) mode not_taken) in
        subst (ReadsPicks (OrDefaultPick is B P k l) qs)
        (sym (result_unread z begins whole y above none c c1 e (ap (λ (w : Reading). w.failed) i.reader ∙ fresh.0)))
        (λ q u p. not_or_default v i j.0 j.1 u.0 u.1 p);
  }
  or_default_rejected None at not_taken e = absurd (true_not_false (accepted_by (some_passes is) c1.reader.mode None) (none_taken is c1.reader.mode) not_taken)

  or_default_both : (v : A) (w : Result V ASN1Error) → Chose (OmitsDefault is B k l) ts c v c1 → ReadsPicks (P k l) (encodings_of c1.list.items) w →
      ReadsPicks (OrDefaultPick is B P k l) qs (paired (Some v) w)
  or_default_both v (Ok w) i j = default_both v (Ok w) i j
  or_default_both v (Err e) i j = λ q u p. by_part q u.0 u.1 p
    where
      by_part : (kind_of e ≡ OutOfMemory → ⊥) → (o : Option A) (w : V) → PickUnless is B P k l o w qs → ⊥
      by_part q (Some u) w p = default_both v (Err e) i j q (u, w) p
      by_part q None w p = not_without z begins whole y above none c c1 w i.before i.one i.after i.whole i.has_tag p

  or_default_none : (w : Result V ASN1Error) → ChoseNone ts c c1 → ReadsPicks (P k l) qs w → ReadsPicks (OrDefaultPick is B P k l) qs (paired None w)
  or_default_none (Ok w) i j = j
  or_default_none (Err e) i j = λ q u p. by_part q u.0 u.1 p
    where
      by_part : (kind_of e ≡ OutOfMemory → ⊥) → (o : Option A) (w : V) → PickUnless is B P k l o w qs → ⊥
      by_part q (Some u) w (inl p) = not_within z begins whole y above none c c1 (u, w) i.none p
      by_part q (Some u) w (inr p) = j q w p.0
      by_part q None w p = j q w p

  -- such a part that was read or is omitted, before the others
  pub or_default_read : (o : Option A) → r ≡ Ok o → accepted_by (some_passes is) c1.reader.mode o ≡ true → (r2 : Result V ASN1Error) (c2 : SetReading) →
      ReadsSetParts P c1 r2 c2 → ReadsSetParts (OrDefaultPick is B P) c (paired o r2) c2
  or_default_read (Some v) at taken r2 c2 s = record {
    reads = λ fresh found.
        let i = default_is (Ok (Some v)) at fresh found in
        let mode = ap (λ (u : Reading). u.mode) i.reader in
        let j = is_taken (some_passes is) k (Some v) (subst (λ o. accepted_by (some_passes is) o (Some v) ≡ true) mode taken) in
        subst (ReadsPicks (OrDefaultPick is B P k l) qs) (paired_result (Some v) r2 c2.reader.failed c2.list.items)
        (or_default_both v (set_result r2 c2) (omitting v i j) (after x begins whole y above none c c1 v r2 c2 fresh i s));
  }
  or_default_read None at taken r2 c2 s = record {
    reads = λ fresh found.
        let i = default_is (Ok None) at fresh found in
        subst (ReadsPicks (OrDefaultPick is B P k l) qs) (paired_result None r2 c2.reader.failed c2.list.items)
        (or_default_none (set_result r2 c2) i (after_none x begins whole y above none c c1 r2 c2 fresh found i s));
  }
