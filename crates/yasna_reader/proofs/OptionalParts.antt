-- What reading a SEQUENCE does of which parts may be omitted: its contents are read up to their end.
use Rattle.std.proofs.Common.{◌≡◌, ℕ, ◌<◌, List, [], ◌++◌, length, Option, Some, None, inl, inr, refl, sym, ap, ap₂, subst, ◌∙◌, append_assoc, length-append, Bool, false, ◌||◌, arith}
use Rattle.std.proofs.lemmas.Bool.{or_left, or_right}
use Rattle.std.specs.Prelude.{Result, Ok, Err}
use Rattle.yasna_base.specs.declared.error.ASN1Error.{ASN1Error}
use Rattle.yasna_base.specs.declared.error.ASN1ErrorKind.TheVariants.{OutOfMemory}
use Rattle.yasna_base.specs.declared.tag.Tag.{Tag}
use Rattle.yasna_base.specs.Coding.{IsCoding}
use Rattle.yasna_base.specs.Element.{Enclosed, AnyEnclosed}
use Rattle.yasna_base.specs.Error.{kind_of}
use Rattle.yasna_base.specs.Grammar.{Grammar, Members}
use Rattle.yasna_base.specs.Identifier.{AtEnd, end_tag}
use Rattle.yasna_base.specs.Optional.{OptionOf, AnyOption}
use Rattle.yasna_base.specs.Sequence.{PartOf, NoParts, AnyPart, AnyNothing}
use Rattle.yasna_base.proofs.Lists.{append_same}
use Rattle.yasna_base.proofs.Optional.{IsUnambiguousBefore}
use Rattle.yasna_reader.specs.declared.callback.Outcome.{Outcome}
use Rattle.yasna_reader.specs.declared.callback.Outcome.TheVariants.{Matched, NoMatch, Failed}
use Rattle.yasna_reader.specs.Callback.{ErrorCause, sticky, before, own, Hands, advanced_as}
use Rattle.yasna_reader.specs.Decodes.{Explains, StickyExplains, ParsedValue, NotParsed, Decodes, ParsedContents, NotContents, DecodesContents, AndIn, Step, Done, Made}
use Rattle.yasna_reader.specs.Optional.{ReadsOptional, optional}
use Rattle.yasna_reader.specs.Parse.{unless_failed}
use Rattle.yasna_bytes.specs.Rejection.{BlamesBytes}
use Rattle.yasna_reader.specs.Sequence.{ReadsParts, place_in}
use Rattle.yasna_reader.specs.State.{Reading, IsFresh, untagged, Does, UnlessFailed}
use Rattle.yasna_reader.proofs.Callbacks.{place_unconsumed}
use Rattle.yasna_bytes.proofs.Rejection.{blames_not_memory}
use Rattle.yasna_reader.proofs.Sequences.{element, place_after, replaced}
use Rattle.yasna_reader.proofs.Tuples.{IsDecoder, decodes_map, enclosed_seen}
use Rattle.yasna_reader.proofs.ListTurns.{fresh_as}

-- the sticky error, or else the result's own
abbrev pub first_error : Option ASN1Error → ASN1Error → ASN1Error
first_error (Some f) e = f
first_error None e = e

pub returned_err : {A : Type 0} (k : Option ASN1Error) (e : ASN1Error) → unless_failed {A = A} k (Err e) ≡ Err (first_error k e)
returned_err (Some f) e = refl
returned_err None e = refl

-- a prefix of what was left represents v, and no other front is the first part of contents that go up to an end
pub record ParsedFirst {A : Type 0} (B : A → List ℕ → Type 0) (S Q : List ℕ → Type 0) (s : Reading) (v : A) (s' : Reading) : Type 0 where
  pub parsed : ParsedValue B s v s'
  pub once : (prefix rest x : List ℕ) → s.left ≡ prefix ++ (rest ++ x) → AtEnd x → S prefix → Q rest → parsed.prefix ≡ prefix

-- what reading the first part of contents does, after which is what Q says
abbrev pub DecodesFirst : {A : Type 0} → Bool → Grammar A → Members → Members → Does A
DecodesFirst may_allocate B S Q s (Ok v) s' = ParsedFirst (B s.mode s.levels) (S s.mode s.levels) (Q s.mode s.levels) s v s'
DecodesFirst may_allocate B S Q s (Err e) s' = NotContents may_allocate (AnyPart S Q s.mode s.levels) s (first_error s'.failed e)

-- each run of N on a fresh reading decodes a first part
pub record IsFirstDecoder {A : Type 0} (may_allocate : Bool) (B : Grammar A) (S Q : Members) (N : Does A) : Type 0 where
  pub decodes : (s : Reading) (r : Result A ASN1Error) (s' : Reading) → IsFresh s → N s r s' → DecodesFirst may_allocate B S Q s r s'

-- each run of P on a fresh reading decodes contents that make a value
pub record IsContentsDecoder {U A : Type 0} (may_allocate : Bool) (C : Grammar A) (S : Members) (make : A → U) (P : Does U) : Type 0 where
  pub decodes : (s : Reading) (r : Result U ASN1Error) (s' : Reading) → IsFresh s → P s r s' →
      DecodesContents may_allocate (Made C make) S s (unless_failed s'.failed r) s'

-- contents of a first part and others

module _ {A V U : Type 0} (B : Grammar A) (S : Members) (p q : Bool) (C : Grammar V) (Q : Members) (make : A × V → U) where
  in_first : (s d x prefix rest : List ℕ) → s ≡ d ++ x → d ≡ prefix ++ rest → s ≡ prefix ++ (rest ++ x)
  in_first s d x prefix rest e f = e ∙ ap (λ z. z ++ x) f ∙ append_assoc prefix rest x

  -- the others are after the first part that was taken
  others_at : (s : Reading) (v : A) (m : Reading) (h : ParsedFirst (B s.mode s.levels) (S s.mode s.levels) (Q s.mode s.levels) s v m) →
      (prefix rest x : List ℕ) → s.left ≡ prefix ++ (rest ++ x) → AtEnd x → S s.mode s.levels prefix → Q s.mode s.levels rest → h.parsed.rest ≡ rest ++ x
  others_at s v m h prefix rest x e i f g =
      let same = h.once prefix rest x e i f g in
      append_same prefix h.parsed.rest (rest ++ x) (sym (ap (λ z. z ++ h.parsed.rest) same) ∙ sym h.parsed.joined ∙ e)

  contents_first : (s : Reading) (v : A) (m : Reading) → ParsedFirst (B s.mode s.levels) (S s.mode s.levels) (Q s.mode s.levels) s v m →
      (y : Result U ASN1Error) (s' : Reading) → DecodesContents q (Made C (λ w. make (v, w))) Q m y s' →
      DecodesContents (p || q) (Made (PartOf B C) make) (AnyPart S Q) s y s'
  contents_first s v m h (Ok u) s' l =
      let parsed = h.parsed in
      let k = subst (λ z. ParsedContents (Made C (λ w. make (v, w)) z.mode z.levels) (Q z.mode z.levels) z u s') parsed.left l in
      let w = k.parsed.member in
      record {
        parsed = record {
          prefix = parsed.prefix ++ k.parsed.prefix;
          rest = k.parsed.rest;
          joined = parsed.joined ∙ ap (λ z. parsed.prefix ++ z) k.parsed.joined ∙ sym (append_assoc parsed.prefix k.parsed.prefix k.parsed.rest);
          member = ((v, w.0), record { prefix = parsed.prefix; rest = k.parsed.prefix; joined = refl; here = parsed.member; more = w.1 }, w.2);
          left = k.parsed.left;
        };
        ends = λ d x e i j.
            let at = in_first s.left d x j.prefix j.rest e j.joined in
            let more = k.ends j.rest x (others_at s v m h j.prefix j.rest x at i j.here j.more) i j.more in
            j.joined ∙ ap₂ (λ y z. y ++ z) (sym (h.once j.prefix j.rest x at i j.here j.more)) more;
      }
  contents_first s v m h (Err e) s' l =
      let k = subst (λ z. NotContents q (Q z.mode z.levels) z e) h.parsed.left l in
      record {
        none = λ o d x f i j.
            let at = in_first s.left d x j.prefix j.rest f j.joined in
            k.none o j.rest x (others_at s v m h j.prefix j.rest x at i j.here j.more) i j.more;
        memory = λ o. or_right p q (k.memory o);
      }

  first_then : (K : A → Does U) (s : Reading) → IsFresh s → (x : Result A ASN1Error) (m : Reading) →
      DecodesFirst p B S Q s x m → (r : Result U ASN1Error) (s' : Reading) →
      ((v : A) → IsFresh m → K v m r s' → DecodesContents q (Made C (λ w. make (v, w))) Q m (unless_failed s'.failed r) s') → AndIn K x m r s' →
      DecodesContents (p || q) (Made (PartOf B C) make) (AnyPart S Q) s (unless_failed s'.failed r) s'
  first_then K s fresh (Ok v) m h r s' more k =
      let now : IsFresh m = (ap (λ (z : Reading). z.failed) h.parsed.left ∙ fresh.0, ap (λ (z : Reading). z.tag) h.parsed.left ∙ fresh.1) in
      contents_first s v m h (unless_failed s'.failed r) s' (more v now k)
  first_then K s fresh (Err e) m h r s' more k =
      let D = λ (x : Result U ASN1Error) (z : Reading). DecodesContents (p || q) (Made (PartOf B C) make) (AnyPart S Q) s (unless_failed z.failed x) z in
      let N : NotContents (p || q) (AnyPart S Q s.mode s.levels) s (first_error m.failed e) =
      record { none = h.none; memory = λ o. or_left p q (h.memory o) } in
      replaced D k.0 k.1 (subst (λ y. DecodesContents (p || q) (Made (PartOf B C) make) (AnyPart S Q) s y m) (sym (returned_err m.failed e)) N)

-- a part, and where it was or was omitted, others
pub then_by : {A V U : Type 0} {B : Grammar A} {S : Members} {N : Does A} {p q : Bool} {C : Grammar V} {Q : Members}
    {make : A × V → U} {K : A → Does U} → IsFirstDecoder p B S Q N →
    ((v : A) → IsContentsDecoder q C Q (λ w. make (v, w)) (K v)) → IsContentsDecoder (p || q) (PartOf B C) (AnyPart S Q) make (Step N K)
then_by {B} {S} {p} {q} {C} {Q} {make} {K} first more = record {
  decodes = λ s r s' fresh h. first_then B S p q C Q make K s fresh h.0 h.1 (first.decodes s h.0 h.1 fresh h.2) r s'
      (λ v now k. (more v).decodes h.1 r s' now k) h.3;
}

no_more_parts : {U : Type 0} (make : Unit {0} → U) (s : Reading) → DecodesContents false (Made NoParts make) AnyNothing s (Ok (make tt)) s
no_more_parts make s = record {
  parsed = record { prefix = []; rest = s.left; joined = refl; member = (tt, refl, refl); left = refl };
  ends = λ d x e i j. j;
}

-- no more part
pub end_by : {U : Type 0} {make : Unit {0} → U} → IsContentsDecoder false NoParts AnyNothing make (Done (make tt))
end_by {make} = record {
  decodes = λ s r s' fresh h. replaced (λ x z. DecodesContents false (Made NoParts make) AnyNothing s (unless_failed z.failed x) z) h.0 h.1
      (subst (λ k. DecodesContents false (Made NoParts make) AnyNothing s (unless_failed k (Ok (make tt))) s) (sym fresh.0) (no_more_parts make s));
}

-- a part that isn't omitted
module _ {A : Type 0} {E : A → A → Type 0} {B : Grammar A} {S : Members} (laws : IsCoding E B S) (may_allocate : Bool) (Q : Members) where
  no_first : (s : Reading) (e : ASN1Error) → Explains may_allocate (S s.mode s.levels) s.left e → NotContents may_allocate (AnyPart S Q s.mode s.levels) s e
  no_first s e t = record {
    none = λ o d x f i j. t.none o j.prefix (j.rest ++ x) (f ∙ ap (λ z. z ++ x) j.joined ∙ append_assoc j.prefix j.rest x) j.here;
    memory = t.memory;
  }

  no_first_sticky : (s : Reading) (k : Option ASN1Error) (e : ASN1Error) → Explains may_allocate (S s.mode s.levels) s.left e → StickyExplains may_allocate (S s.mode s.levels) s.left k →
      NotContents may_allocate (AnyPart S Q s.mode s.levels) s (first_error k e)
  no_first_sticky s (Some f) e t h = no_first s f h
  no_first_sticky s None e t h = no_first s e t

  first_part : (s : Reading) (r : Result A ASN1Error) (s' : Reading) → Decodes may_allocate B S s r s' → DecodesFirst may_allocate B S Q s r s'
  first_part s (Ok v) s' h = record {
    parsed = h;
    once = λ prefix rest x e i f g.
        laws.prefix_free s.mode s.levels s.levels h.prefix prefix h.rest (rest ++ x) (laws.meaning.among s.mode s.levels v h.prefix h.member) f (sym h.joined ∙ e);
  }
  first_part s (Err e) s' h = no_first_sticky s s'.failed e h.0.explains h.0.failed

-- a part that isn't omitted is read as P says
pub part_by : {A : Type 0} {E : A → A → Type 0} {may_allocate : Bool} {B : Grammar A} {S Q : Members}
    {N : Does A} → IsCoding E B S → IsDecoder may_allocate B S N → IsFirstDecoder may_allocate B S Q N
part_by {may_allocate} {Q} laws decoder = record { decodes = λ s r s' fresh h. first_part laws may_allocate Q s r s' (decoder.decodes s r s' fresh h) }

-- contents in Q are all of s up to an end
pub record EndsWith (Q : List ℕ → Type 0) (s : List ℕ) : Type 0 where
  pub contents : List ℕ
  pub rest : List ℕ
  pub joined : s ≡ contents ++ rest
  pub ends : AtEnd rest
  pub member : Q contents

-- where contents in Q are there, a run of N that returns an Err is a no-match
pub record NoMatchBefore {A : Type 0} (N : Does A) (Q : Members) : Type 0 where
  pub no_match : (s : Reading) (e : ASN1Error) (s' : Reading) → IsFresh s → N s (Err e) s' → EndsWith (Q s.mode s.levels) s.left →
      (s' ≡ s) × BlamesBytes (kind_of e)

-- where nothing follows, a run of a decoder that returns an Err is a no-match
pub no_match_at_end : {A : Type 0} {may_allocate : Bool} {B : Grammar A} {S : Members} {N : Does A} → IsDecoder may_allocate B S N → NoMatchBefore N AnyNothing
no_match_at_end decoder = record {
  no_match = λ s e s' fresh h x.
      (decoder.decodes s (Err e) s' fresh h).1 (subst AtEnd (sym (x.joined ∙ ap (λ z. z ++ x.rest) x.member)) x.ends);
}

advanced_fresh : (s m : Reading) → IsFresh s → (r : List ℕ) → place_in s.left m.left ≡ r → advanced_as s m ≡ record s { left = r }
advanced_fresh s m fresh r e = ap {A = List ℕ} {B = Reading} (λ z. record s { left = z; tag = None; failed = None }) e ∙ fresh_as s r fresh

-- a part that may be omitted
module _ {A : Type 0} {E : A → A → Type 0} {B : Grammar A} {S : Members} (laws : IsCoding E B S)
    (may_allocate : Bool) (Q : Members) (unambiguous : IsUnambiguousBefore S Q) (N : Does A)
    (decoder : IsDecoder may_allocate B S N) (before_others : NoMatchBefore N Q) (s : Reading) (fresh : IsFresh s) where
  parsed_left : (v : A) (m s' : Reading) (h : ParsedValue (B s.mode s.levels) s v m) → s' ≡ advanced_as s m → s' ≡ record s { left = h.rest }
  parsed_left v m s' h e =
      e ∙ advanced_fresh s m fresh h.rest
      (ap (λ (z : Reading). place_in s.left z.left) h.left ∙ ap (λ z. place_in z h.rest) h.joined ∙ place_after h.prefix h.rest)

  some_first : (v : A) (m s' : Reading) → ParsedValue (B s.mode s.levels) s v m → s' ≡ advanced_as s m →
      DecodesFirst may_allocate (OptionOf B) (AnyOption S) Q s (Ok (Some v)) s'
  some_first v m s' h e = record {
    parsed = record { prefix = h.prefix; rest = h.rest; joined = h.joined; member = h.member; left = parsed_left v m s' h e };
    once = λ prefix rest x f i j g. once prefix rest x f i j g;
  }
    where
      among : S s.mode s.levels h.prefix
      among = laws.meaning.among s.mode s.levels v h.prefix h.member

      once : (prefix rest x : List ℕ) → s.left ≡ prefix ++ (rest ++ x) → AtEnd x → AnyOption S s.mode s.levels prefix → Q s.mode s.levels rest → h.prefix ≡ prefix
      once prefix rest x f i (inl j) g = laws.prefix_free s.mode s.levels s.levels h.prefix prefix h.rest (rest ++ x) among j (sym h.joined ∙ f)
      once prefix rest x f i (inr j) g =
          absurd (unambiguous s.mode s.levels s.levels h.prefix rest h.rest x i among g (sym h.joined ∙ f ∙ ap (λ z. z ++ (rest ++ x)) j))

  none_first : (e : ASN1Error) (m s' : Reading) → NotParsed may_allocate (S s.mode s.levels) s e m → BlamesBytes (kind_of e) → length m.left ≡ length s.left →
      s' ≡ advanced_as s m → DecodesFirst may_allocate (OptionOf B) (AnyOption S) Q s (Ok None) s'
  none_first e m s' h blames_bytes consumed_nothing f = record {
    parsed = record {
      prefix = [];
      rest = s.left;
      joined = refl;
      member = refl;
      left = f ∙ advanced_fresh s m fresh s.left (place_unconsumed s.left m.left consumed_nothing);
    };
    once = λ prefix rest x g i j k. once prefix rest x g j;
  }
    where
      once : (prefix rest x : List ℕ) → s.left ≡ prefix ++ (rest ++ x) → AnyOption S s.mode s.levels prefix → [] ≡ prefix
      once prefix rest x g (inl j) = absurd (h.explains.none (blames_not_memory blames_bytes) prefix (rest ++ x) g j)
      once prefix rest x g (inr j) = sym j

  -- where the read fails, neither the part is there nor what follows it
  fails_first : (e : ASN1Error) → Explains may_allocate (S s.mode s.levels) s.left e → (EndsWith (Q s.mode s.levels) s.left → ⊥) →
      NotContents may_allocate (AnyPart (AnyOption S) Q s.mode s.levels) s e
  fails_first e t no_others = record {
    none = λ o d x f i j. none o d x f i j.prefix j.rest j.joined j.here j.more;
    memory = t.memory;
  }
    where
      none : (kind_of e ≡ OutOfMemory → ⊥) → (d x : List ℕ) → s.left ≡ d ++ x → AtEnd x → (prefix rest : List ℕ) → d ≡ prefix ++ rest →
          AnyOption S s.mode s.levels prefix → Q s.mode s.levels rest → ⊥
      none o d x f i prefix rest j (inl k) q = t.none o prefix (rest ++ x) (f ∙ ap (λ z. z ++ x) j ∙ append_assoc prefix rest x) k
      none o d x f i prefix rest j (inr k) q = no_others
          (record { contents = rest; rest = x; joined = f ∙ ap (λ z. z ++ x) (j ∙ ap (λ z. z ++ rest) k); ends = i; member = q })

  parsed_unfailed : (v : A) (m : Reading) → ParsedValue (B s.mode s.levels) s v m → m.failed ≡ None
  parsed_unfailed v m h = ap (λ (z : Reading). z.failed) h.left ∙ fresh.0

  parsed_further : (v : A) (m : Reading) → ParsedValue (B s.mode s.levels) s v m → length s.left < length m.left → ⊥
  parsed_further v m h b = omega (arith, b, ap length h.joined, length-append h.prefix h.rest, ap (λ (z : Reading). length z.left) h.left)

  option_cause_explains : (x : Result A ASN1Error) (m : Reading) → Decodes may_allocate B S s x m → (e : ASN1Error) → ErrorCause s.left x m e →
      Explains may_allocate (S s.mode s.levels) s.left e
  option_cause_explains (Ok v) m h e (sticky k) = let u = parsed_unfailed v m h in absurd (cc)
  option_cause_explains (Ok v) m h e (before k b f) = absurd (parsed_further v m h b)
  option_cause_explains (Ok v) m h e (own k b f p) = absurd (cc)
  option_cause_explains (Err d) m h e (sticky k) = subst (λ z. StickyExplains may_allocate (S s.mode s.levels) s.left z) k h.0.failed
  option_cause_explains (Err d) m h e (before k b f) = absurd (omega (arith, b, h.0.further))
  option_cause_explains (Err d) m h e (own k b f p) = let g : d ≡ e = cc in subst (λ z. Explains may_allocate (S s.mode s.levels) s.left z) g h.0.explains

  cause_alone : (x : Result A ASN1Error) (m : Reading) → N s x m → Decodes may_allocate B S s x m → (e : ASN1Error) → ErrorCause s.left x m e →
      EndsWith (Q s.mode s.levels) s.left → ⊥
  cause_alone (Ok v) m n h e (sticky k) q = let u = parsed_unfailed v m h in absurd (cc)
  cause_alone (Ok v) m n h e (before k b f) q = parsed_further v m h b
  cause_alone (Ok v) m n h e (own k b f p) q = absurd (cc)
  cause_alone (Err d) m n h e (sticky k) q =
      let w = before_others.no_match s d m fresh n q in
      let u : m.failed ≡ None = ap (λ (z : Reading). z.failed) w.0 ∙ fresh.0 in
      absurd (cc)
  cause_alone (Err d) m n h e (before k b f) q =
      let w = before_others.no_match s d m fresh n q in
      absurd (omega (arith, b, ap (λ (z : Reading). length z.left) w.0))
  cause_alone (Err d) m n h e (own k b f p) q =
      let w = before_others.no_match s d m fresh n q in
      let g : d ≡ e = cc in
      p (ap (λ (z : Reading). length z.left) w.0) (subst (λ z. BlamesBytes (kind_of z)) g w.1)

  came_to : (o : Outcome A) (s' : Reading) → Hands N s o s' → DecodesFirst may_allocate (OptionOf B) (AnyOption S) Q s (optional o) s'
  came_to (Matched v) s' h =
      let d = decoder.decodes s h.own h.left fresh h.obeys in
      some_first v h.left s' (subst (λ x. Decodes may_allocate B S s x h.left) h.comes.2 d) h.comes.3
  came_to (NoMatch e) s' h =
      let d = decoder.decodes s h.own h.left fresh h.obeys in
      let x = subst (λ x. Decodes may_allocate B S s x h.left) h.comes.3 d in
      none_first e h.left s' x.0 h.comes.2 h.comes.1 h.comes.4
  came_to (Failed e) s' h =
      let d = decoder.decodes s h.own h.left fresh h.obeys in
      let F = fails_first e (option_cause_explains h.own h.left d e h.comes.0) (cause_alone h.own h.left h.obeys d e h.comes.0) in
      subst (λ (z : Reading). NotContents may_allocate (AnyPart (AnyOption S) Q s.mode s.levels) s (first_error z.failed e)) (sym h.comes.1) F

  option_first : (r : Result (Option A) ASN1Error) (s' : Reading) → ReadsOptional N s r s' → DecodesFirst may_allocate (OptionOf B) (AnyOption S) Q s r s'
  option_first r s' h =
      let k = subst (λ k. UnlessFailed k s r s' ((o : Outcome A) × Hands N (untagged s) o s' × (r ≡ optional o))) fresh.0 h in
      let same : untagged s ≡ s = ap {A = Option Tag} {B = Reading} (λ t. record s { tag = t }) (sym fresh.1) in
      subst (λ x. DecodesFirst may_allocate (OptionOf B) (AnyOption S) Q s x s') (sym k.2) (came_to k.0 s' (subst (λ z. Hands N z k.0 s') same k.1))

-- a part that may be omitted, where what follows never begins as it does
pub option_by : {A : Type 0} {E : A → A → Type 0} {may_allocate : Bool} {B : Grammar A} {S Q : Members}
    {N : Does A} → IsCoding E B S → IsDecoder may_allocate B S N → IsUnambiguousBefore S Q → NoMatchBefore N Q →
    IsFirstDecoder may_allocate (OptionOf B) (AnyOption S) Q (ReadsOptional N)
option_by {may_allocate} {Q} {N} laws decoder unambiguous no_match =
    record { decodes = λ s r s' fresh h. option_first laws may_allocate Q unambiguous N decoder no_match s fresh r s' h }

made_contents : {U A : Type 0} (f : U → A) (make : A → U) → ((w : A) → f (make w) ≡ w) →
    (may_allocate : Bool) (C : Grammar A) (S : Members) (s : Reading) (r : Result U ASN1Error) (s' : Reading) →
    DecodesContents may_allocate (Made C make) S s r s' → DecodesContents {A = U} may_allocate (λ m n v c. C m n (f v) c) S s r s'
made_contents f make back may_allocate C S s (Ok v) s' h =
    let parsed = h.parsed in
    record {
      parsed = record {
        prefix = parsed.prefix;
        rest = parsed.rest;
        joined = parsed.joined;
        member = subst (λ w. C s.mode s.levels w parsed.prefix) (sym (ap f parsed.member.2 ∙ back parsed.member.0)) parsed.member.1;
        left = parsed.left;
      };
      ends = h.ends;
    }
made_contents f make back may_allocate C S s (Err e) s' h = h

-- an element around contents that are read up to their end and make a value
pub contents_sequence : {U A : Type 0} {C : Grammar A} {S : Members} {may_allocate : Bool}
    {P : Does U} (f : U → A) (make : A → U) → ((w : A) → f (make w) ≡ w) →
    IsContentsDecoder may_allocate C S make P → (t : Tag) → (t ≡ end_tag → ⊥) → (s : Reading) → IsFresh s → (r : Result U ASN1Error) (s' : Reading) →
    ReadsParts P t s r s' → Decodes {A = U} may_allocate (λ m n v b. Enclosed C t m n (f v) b) (AnyEnclosed S t) s r s'
contents_sequence {C} {S} {may_allocate} {P} f make back contents t not_end s fresh r s' h =
    decodes_map may_allocate (Enclosed (λ m n v c. C m n (f v) c) t) (λ m n v b. Enclosed C t m n (f v) b) (AnyEnclosed S t) (enclosed_seen f C t) s r s'
    (element may_allocate (λ m n v c. C m n (f v) c) S P
    (λ z x m i k. made_contents f make back may_allocate C S z (unless_failed m.failed x) m (contents.decodes z x m i k)) t not_end s fresh r s' h)
