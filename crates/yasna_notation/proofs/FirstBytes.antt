-- What reading does that also returns the bytes of a SEQUENCE's first part.
use Rattle.std.proofs.Common.{◌≡◌, ◌++◌, ◌-◌, ◌∷◌, [], ℕ, zero, suc, List, Bool, true, Option, Some, None, Result, Ok, Err, inl, inr, refl, sym, ap, subst, ◌∙◌}
use Rattle.std.specs.Borrow.{Bor, MutBor}
use Rattle.std.specs.Fn.{Once, FnOnceReturnsAtMut}
use Rattle.yasna_base.specs.declared.error.ASN1Error.{ASN1Error}
use Rattle.yasna_base.specs.declared.tag.PCBit.TheVariants.{Constructed}
use Rattle.yasna_base.specs.declared.tag.Tag.{Tag}
use Rattle.yasna_base.specs.Coding.{IsCoding}
use Rattle.yasna_base.specs.declared.mode.BERMode.{BERMode}
use Rattle.yasna_base.specs.Element.{Element, Enclosed, AnyEnclosed}
use Rattle.yasna_base.specs.Grammar.{Grammar, Members}
use Rattle.yasna_base.specs.Header.{ContentsEnd, OpensAt}
use Rattle.yasna_base.specs.Identifier.{tag_or}
use Rattle.yasna_base.specs.Sequence.{PartOf, sequence_tag}
use Rattle.yasna_base.proofs.Lists.{append_before}
use Rattle.yasna_bytes.specs.Header.{EndsBefore}
use Rattle.yasna_bytes.proofs.Ending.{closed}
use Rattle.yasna_reader.specs.declared.callback.Outcome.{Outcome}
use Rattle.yasna_reader.specs.declared.callback.Outcome.TheVariants.{Matched, NoMatch, Failed}
use Rattle.yasna_reader.specs.Buffer.{Buffered, ReadsBuffer}
use Rattle.yasna_reader.specs.Callback.{Lent, returned_of}
use Rattle.yasna_reader.specs.declared.state.PartsReader.{PartsReader}
use Rattle.yasna_reader.specs.Decodes.{Decodes, DecodesContents}
use Rattle.yasna_reader.specs.Parse.{unless_failed}
use Rattle.yasna_reader.specs.Sequence.{EntersAt, Left, ReadsParts, Runs, place_in}
use Rattle.yasna_reader.specs.State.{Reading, IsFresh, inside, part_of, tag_of, untagged, Does, UnlessFailed}
use Rattle.yasna_reader.proofs.Handed.{lent_decodes}
use Rattle.yasna_reader.proofs.OptionalParts.{IsFirstDecoder, part_by}
use Rattle.yasna_reader.proofs.Sequences.{parts_map, place_after}
use Rattle.yasna_reader.proofs.Tuples.{IsDecoder}
use Rattle.yasna_notation.specs.declared.first_bytes.WithFirst.{WithFirst}
use Rattle.yasna_notation.specs.FirstBytes.{BesideBytes, PartsWithFirst, BeginsByPart}
use Rattle.yasna_notation.specs.Notation.{DecodesAs, ReadsAs}
use Rattle.yasna_notation.specs.Parts.{ReadsContents}
use Rattle.yasna.proofs.Closures.{by_run}
use Rattle.yasna_notation.proofs.Enclosing.{value_by, sequence_read}

-- a value beside its bytes satisfies the laws of the value
beside_coding : {A : Type 0} {E : A → A → Type 0} {B : Grammar A} {S : Members} → IsCoding E B S →
    IsCoding (λ (v w : A × Bor (List ℕ)). E v.0 w.0) (BesideBytes B) S
beside_coding x = record {
  meaning = record {
    equal = record {
      reflexive = λ v. x.meaning.equal.reflexive v.0;
      symmetric = λ v w. x.meaning.equal.symmetric v.0 w.0;
      transitive = λ u v w. x.meaning.equal.transitive u.0 v.0 w.0;
    };
    among = λ m n v b h. x.meaning.among m n v.0 b h.0;
    exact = λ m n k v w b h i. x.meaning.exact m n k v.0 w.0 b h.0 i.0;
    deeper = λ m n k v b l h. (x.meaning.deeper m n k v.0 b l h.0, h.1);
  };
  opens = x.opens;
  prefix_free = x.prefix_free;
}

module _ {A : Type 0} {may_allocate : Bool} {B : Grammar A} {S : Members} {N : Does A} (value : IsDecoder may_allocate B S N) where
  parsed_bytes : (s : Reading) (o : Outcome A) (r : Result (A × Bor (List ℕ)) ASN1Error) (s' : Reading) → Decodes may_allocate B S s (returned_of o) s' →
      Buffered s.left o r s'.left → Decodes may_allocate (BesideBytes B) S s r s'
  parsed_bytes s (Matched v) (Ok x) s' d t =
      let same : x.1.now ++ d.rest ≡ d.prefix ++ d.rest =
      sym (ap (λ (z : Reading). x.1.now ++ z.left) d.left) ∙ sym t.1 ∙ d.joined in
      record {
        prefix = d.prefix;
        rest = d.rest;
        joined = d.joined;
        member = (subst (λ z. B s.mode s.levels z d.prefix) (sym t.0) d.member, append_before x.1.now d.prefix d.rest same);
        left = d.left;
      }
  parsed_bytes s (Matched v) (Err e) s' d t = absurd t
  parsed_bytes s (NoMatch e) r s' d t = subst (λ z. Decodes may_allocate (BesideBytes B) S s z s') (sym t) d
  parsed_bytes s (Failed e) r s' d t = subst (λ z. Decodes may_allocate (BesideBytes B) S s z s') (sym t) d

  -- a read that also returns the bytes it took decodes values beside their bytes
  buffer_by : IsDecoder may_allocate (BesideBytes B) S (ReadsBuffer N)
  buffer_by = record {
    decodes = λ s r s' fresh h.
        let x = subst (λ k. UnlessFailed k s r s' ((o : Outcome A) × Lent N s s o s' × Buffered s.left o r s'.left)) fresh.0 h in
        parsed_bytes s x.0 r s' (lent_decodes value s fresh x.0 s' x.1) x.2;
  }

-- it reads as the closure's calls read
pub buffer_called : {A F : Type 0} (g : Once F (MutBor Reading × Unit {0}) (Result A ASN1Error × (MutBor Reading × Unit {0}))) (f : F) (N : Does A)
    (s : Reading) (r : Result (A × Bor (List ℕ)) ASN1Error) (s' : Reading) → ReadsBuffer (FnOnceReturnsAtMut g f) s r s' →
    ((p q : MutBor Reading) (x : Result A ASN1Error) → g.post f (p, tt) (x, (q, tt)) → N p.now x q.now) → ReadsBuffer N s r s'
buffer_called {A} g f N s r s' h obeys = by_sticky s.failed h
  where
    by_sticky : (k : Option ASN1Error) →
        UnlessFailed k s r s' ((o : Outcome A) × Lent (FnOnceReturnsAtMut g f) s s o s' × Buffered s.left o r s'.left) →
        UnlessFailed k s r s' ((o : Outcome A) × Lent N s s o s' × Buffered s.left o r s'.left)
    by_sticky (Some e) x = x
    by_sticky None x = (
      x.0,
      record {
        between = x.1.between;
        hands = record {
          own = x.1.hands.own;
          left = x.1.hands.left;
          obeys = by_run N obeys s x.1.hands.own x.1.hands.left x.1.hands.obeys;
          comes = x.1.hands.comes;
        };
        state = x.1.state;
      },
      x.2,
    )

-- a part that is there, whose bytes are returned
pub beside_first : {A : Type 0} {tags_known : Bool} {ts : List Tag} {retagged may_allocate : Bool} {E : A → A → Type 0} {B : Option Tag → Grammar A}
    {S : Option Tag → Members} {Q : Members} → IsCoding E (B None) (S None) →
    IsFirstDecoder may_allocate (BesideBytes (B None)) (S None) Q (ReadsBuffer (ReadsAs tags_known ts retagged may_allocate B S))
beside_first laws = part_by (beside_coding laws) (buffer_by value_by)

-- what encodes one value encodes another
module _ {A U : Type 0} (tags_known : Bool) (ts : List Tag) (may_allocate : Bool) (B : Grammar A) (D : Grammar U) (S : Members) (s : Reading) where
  decodes_so : (v : A) (w : U) (s' : Reading) → ((b : List ℕ) → B s.mode s.levels v b → D s.mode s.levels w b) → DecodesAs tags_known ts may_allocate B S s (Ok v) s' →
      DecodesAs tags_known ts may_allocate D S s (Ok w) s'
  decodes_so v w s' obeys h =
      let k = h.decodes in
      record {
        decodes = record { prefix = k.prefix; rest = k.rest; joined = k.joined; member = obeys k.prefix k.member; left = k.left };
        no_match = λ _. tt;
      }

  fails_so : (e : ASN1Error) (s' : Reading) → DecodesAs tags_known ts may_allocate B S s (Err e) s' → DecodesAs tags_known ts may_allocate D S s (Err e) s'
  fails_so e s' h = record { decodes = h.decodes; no_match = h.no_match }

module _ {A U : Type 0} (tags_known : Bool) (ts : List Tag) (retagged may_allocate : Bool) (B : Option Tag → Grammar A) (D : Option Tag → Grammar U)
    (S : Option Tag → Members) (s : Reading) where
  pub reads_so : (v : A) (w : U) (s' : Reading) → ((u : Option Tag) (m : BERMode) (n : ℕ) (b : List ℕ) → B u m n v b → D u m n w b) →
      ReadsAs tags_known ts retagged may_allocate B S s (Ok v) s' → ReadsAs tags_known ts retagged may_allocate D S s (Ok w) s'
  reads_so v w s' obeys h = record {
    fresh = λ fresh. decodes_so tags_known ts may_allocate (B None) (D None) (S None) s v w s' (obeys None s.mode s.levels) (h.fresh fresh);
    replaced = λ may t not range failed waits.
        decodes_so true (t ∷ []) may_allocate (B (Some t)) (D (Some t)) (S (Some t)) (untagged s) v w (untagged s') (obeys (Some t) s.mode s.levels)
        (h.replaced may t not range failed waits);
    repeats = λ e failed. absurd (let x = (h.repeats e failed).0 in cc);
  }

  pub reads_none_so : (e : ASN1Error) (s' : Reading) → ReadsAs tags_known ts retagged may_allocate B S s (Err e) s' → ReadsAs tags_known ts retagged may_allocate D S s (Err e) s'
  reads_none_so e s' h = record {
    fresh = λ fresh. fails_so tags_known ts may_allocate (B None) (D None) (S None) s e s' (h.fresh fresh);
    replaced = λ may t not range failed waits.
        fails_so true (t ∷ []) may_allocate (B (Some t)) (D (Some t)) (S (Some t)) (untagged s) e (untagged s') (h.replaced may t not range failed waits);
    repeats = λ d failed.
        let x = h.repeats d failed in
        let same : e ≡ d = let y = x.0 in cc in
        (ap (λ z. Err z) same, x.1);
  }

-- what reads contents of one value reads those of another, where these encode it too
module _ {A U : Type 0} (may_allocate : Bool) (C : Grammar A) (D : Grammar U) (S : Members) (s : Reading) (s' : Reading) where
  pub contents_so : (k : Option ASN1Error) (v : A) (w : U) → ((c : List ℕ) → C s.mode s.levels v c → D s.mode s.levels w c) →
      DecodesContents may_allocate C S s (unless_failed k (Ok v)) s' → DecodesContents may_allocate D S s (unless_failed k (Ok w)) s'
  contents_so (Some e) v w obeys h = h
  contents_so None v w obeys h =
      let k = h.parsed in
      record {
        parsed = record { prefix = k.prefix; rest = k.rest; joined = k.joined; member = obeys k.prefix k.member; left = k.left };
        ends = h.ends;
      }

  pub no_contents_so : (k : Option ASN1Error) (e : ASN1Error) → DecodesContents may_allocate C S s (unless_failed k (Err e)) s' →
      DecodesContents may_allocate D S s (unless_failed k (Err e)) s'
  no_contents_so (Some f) e h = h
  no_contents_so None e h = h

module _ {A V : Type 0} (B : Grammar A) (C : Grammar V) where
  -- an element around parts and the bytes of the first is one around the parts
  without_bytes : (t : Tag) (m : BERMode) (n : ℕ) (x : WithFirst A V) (b : List ℕ) → Enclosed (PartsWithFirst B C) t m n x b →
      Enclosed (PartOf B C) t m n (x.first, x.others) b
  without_bytes t m zero x b h = h
  without_bytes t m (suc n) x b h = record {
    contents = h.contents;
    element = h.element;
    meaning = record {
      prefix = h.meaning.prefix;
      rest = h.meaning.rest;
      joined = h.meaning.joined;
      here = h.meaning.here.0;
      more = h.meaning.more;
    };
  }

-- a SEQUENCE whose first part's bytes are returned
module _ {A V F : Type 0} (g : Once F (MutBor (PartsReader Reading) × Unit {0}) (Result (WithFirst A V) ASN1Error × (MutBor (PartsReader Reading) × Unit {0}))) (f : F)
    (may_allocate : Bool) (B : Grammar A) (C : Grammar V) (S : Members) (s : Reading) (r : Result (WithFirst A V) ASN1Error) (s' : Reading)
    (h : ReadsParts (Runs g f) sequence_tag s r s')
    (obeys : (p q : MutBor (PartsReader Reading)) (x : Result (WithFirst A V) ASN1Error) → IsFresh (part_of p.now) → g.post f (p, tt) (x, (q, tt)) →
    ReadsContents may_allocate (PartsWithFirst B C) S (part_of p.now) x (part_of q.now)) where
  -- is one whose values represent those of its parts
  pub first_reads : {U : Type 0} (parts : U → A × V) (x : WithFirst A V) (w : U) → parts w ≡ (x.first, x.others) → r ≡ Ok x →
      ReadsAs true (sequence_tag ∷ []) true may_allocate (λ u m n v b. Enclosed (PartOf B C) (tag_or u sequence_tag) m n (parts v) b)
      (λ u. AnyEnclosed S (tag_or u sequence_tag)) s (Ok w) s'
  first_reads {U} parts x w same is =
      reads_so true (sequence_tag ∷ []) true may_allocate (λ u. Enclosed (PartsWithFirst B C) (tag_or u sequence_tag))
      (λ u m n v b. Enclosed (PartOf B C) (tag_or u sequence_tag) m n (parts v) b) (λ u. AnyEnclosed S (tag_or u sequence_tag)) s x w s'
      (λ u m n b k. subst (λ z. Enclosed (PartOf B C) (tag_or u sequence_tag) m n z b) (sym same)
      (without_bytes B C (tag_or u sequence_tag) m n x b k))
      (subst (λ z. ReadsAs true (sequence_tag ∷ []) true may_allocate (λ u. Enclosed (PartsWithFirst B C) (tag_or u sequence_tag))
      (λ u. AnyEnclosed S (tag_or u sequence_tag)) s z s') is (sequence_read h obeys))

  pub first_fails : {U : Type 0} (parts : U → A × V) (e : ASN1Error) → r ≡ Err e →
      ReadsAs {A = U} true (sequence_tag ∷ []) true may_allocate (λ u m n v b. Enclosed (PartOf B C) (tag_or u sequence_tag) m n (parts v) b)
      (λ u. AnyEnclosed S (tag_or u sequence_tag)) s (Err e) s'
  first_fails {U} parts e is =
      reads_none_so true (sequence_tag ∷ []) true may_allocate (λ u. Enclosed (PartsWithFirst B C) (tag_or u sequence_tag))
      (λ u m n v b. Enclosed (PartOf B C) (tag_or u sequence_tag) m n (parts v) b) (λ u. AnyEnclosed S (tag_or u sequence_tag)) s e s'
      (subst (λ z. ReadsAs true (sequence_tag ∷ []) true may_allocate (λ u. Enclosed (PartsWithFirst B C) (tag_or u sequence_tag))
      (λ u. AnyEnclosed S (tag_or u sequence_tag)) s z s') is (sequence_read h obeys))

-- the bytes of the first part are those that it was read from
module _ {A V : Type 0} (may_allocate : Bool) (B : Grammar A) (C : Grammar V) (S : Members) (s : Reading) (x : WithFirst A V) (s' : Reading) where
  left_so : (c : List ℕ) (end : ContentsEnd) → OpensAt s.mode (tag_of s sequence_tag) Constructed s.left c end → (k : Option ASN1Error)
      (own : Result (WithFirst A V) ASN1Error) (left : Reading) →
      DecodesContents may_allocate (PartsWithFirst B C) S (inside s c) (unless_failed k own) left →
      Left end c k left.left own (untagged s) (Ok x) s' → BeginsByPart B s x.first x.first_bytes.now s'
  left_so c end o (Some e) own left d h = let y = h.returned in absurd (cc)
  left_so c end o None (Err e) left d h = let y = h.returned in absurd (cc)
  left_so c end o None (Ok v) left d (inl h) =
      let same : v ≡ x = let y = h.returned in cc in
      let k = d.parsed in
      let at : place_in c left.left ≡ k.rest =
      ap (λ (z : Reading). place_in c z.left) k.left ∙ ap (λ z. place_in z k.rest) k.joined ∙ place_after k.prefix k.rest in
      let w = closed s.mode (tag_of s sequence_tag) Constructed s.left c end o k.prefix k.rest h.rest k.joined
      (subst (λ z. EndsBefore end z h.rest) at h.ends) in
      let i = k.member in
      subst (λ (z : WithFirst A V). BeginsByPart B s z.first z.first_bytes.now s') same (record {
        element = w.bytes;
        others = i.rest;
        joined = w.joined ∙ ap (λ (z : Reading). w.bytes ++ z.left) (sym h.state);
        framed = subst (λ z. Element s.mode (tag_of s sequence_tag) Constructed (z ++ i.rest) w.bytes) (sym i.here.1)
            (subst (λ z. Element s.mode (tag_of s sequence_tag) Constructed z w.bytes) i.joined w.element);
        encodes = subst (λ z. B s.mode (s.levels - 1) v.first z) (sym i.here.1) i.here.0;
      })
  left_so c end o None (Ok v) left d (inr h) = let y = h.fails.returned in absurd (cc)

  abbrev N : Does (WithFirst A V)
  N s r s' = IsFresh s → ReadsContents may_allocate (PartsWithFirst B C) S s r s'

  enters_so : (k : Option ASN1Error) → UnlessFailed k s (Ok x) s' (EntersAt N (tag_of s sequence_tag) s (Ok x) s') → BeginsByPart B s x.first x.first_bytes.now s'
  enters_so (Some e) h = let y = h.0 in absurd (cc)
  enters_so None (inr h) = let y = h.returned in absurd (cc)
  enters_so None (inl h) = left_so h.contents h.end h.opens h.left.failed h.own h.left (h.obeys (refl, refl)) h.closed

  pub first_begins : {F : Type 0}
      (g : Once F (MutBor (PartsReader Reading) × Unit {0}) (Result (WithFirst A V) ASN1Error × (MutBor (PartsReader Reading) × Unit {0}))) (f : F)
      (r : Result (WithFirst A V) ASN1Error) → ReadsParts (Runs g f) sequence_tag s r s' →
      ((p q : MutBor (PartsReader Reading)) (y : Result (WithFirst A V) ASN1Error) → IsFresh (part_of p.now) → g.post f (p, tt) (y, (q, tt)) →
      ReadsContents may_allocate (PartsWithFirst B C) S (part_of p.now) y (part_of q.now)) → r ≡ Ok x → BeginsByPart B s x.first x.first_bytes.now s'
  first_begins g f r h obeys is =
      enters_so s.failed (parts_map _ N (λ y z u i k. λ fresh.
      by_run (λ z y w. IsFresh (part_of z) → ReadsContents may_allocate (PartsWithFirst B C) S (part_of z) y (part_of w))
      (λ p q y post now. obeys p q y now post) (record { reader = y }) z (record { reader = u }) k fresh) sequence_tag s (Ok x) s'
      (subst (λ z. ReadsParts (Runs g f) sequence_tag s z s') is h)).enters
