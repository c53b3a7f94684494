-- What reading parts does that are made as the notation says: the first, and those after it.
use Rattle.std.proofs.Common.{◌≡◌, ◌||◌, ◌&&◌, ◌∷◌, List, Bool, true, false, Option, Some, None, Result, Ok, Err, refl, sym, subst}
use Rattle.std.proofs.lemmas.Bool.{and_parts}
use Rattle.std.specs.Borrow.{MutBor}
use Rattle.std.specs.Fn.{Once, FnOnceReturnsAtMut}
use Rattle.yasna_base.specs.declared.error.ASN1Error.{ASN1Error}
use Rattle.yasna_base.specs.declared.tag.Tag.{Tag}
use Rattle.yasna_base.specs.Beginnings.{share_none}
use Rattle.yasna_base.specs.Coding.{IsCoding, Any}
use Rattle.yasna_base.specs.Default.{DetectsDefault, DefaultOf}
use Rattle.yasna_base.specs.Exact.{Fitting}
use Rattle.yasna_base.specs.Grammar.{Grammar, Members, Encoding}
use Rattle.yasna_base.specs.Identifier.{end_tag}
use Rattle.yasna_base.specs.Optional.{OptionOf, AnyOption}
use Rattle.yasna_base.specs.Sequence.{PartOf, NoParts, AnyPart, AnyNothing}
use Rattle.yasna_base.proofs.Beginnings.{unambiguous_before}
use Rattle.yasna_base.proofs.Optional.{unambiguous_before_nothing}
use Rattle.yasna_reader.specs.declared.callback.Outcome.{Outcome}
use Rattle.yasna_reader.specs.Callback.{Hands}
use Rattle.yasna_reader.specs.Decodes.{DecodesContents, AndIn, Done, Made}
use Rattle.yasna_reader.specs.Optional.{ReadsOptional, ReadsDefault, ReadsOrDefaults, optional}
use Rattle.yasna_reader.specs.Parse.{unless_failed}
use Rattle.yasna_reader.specs.State.{Reading, IsFresh, untagged, Does, UnlessFailed}
use Rattle.yasna_reader.proofs.ByTags.{IsDecoderByTags, plain_by}
use Rattle.yasna_reader.proofs.DefaultParts.{default_by}
use Rattle.yasna_reader.proofs.OptionalParts.{IsFirstDecoder, IsContentsDecoder, then_by, part_by, option_by, no_match_at_end, end_by}
use Rattle.yasna_reader.proofs.PartsByTags.{no_match_before}
use Rattle.yasna_notation.specs.Notation.{IsNotation, ReadsAs}
use Rattle.yasna_notation.specs.Parts.{AreParts, ReadsContents, all_known, is_known}
use Rattle.yasna.proofs.Closures.{by_run}
use Rattle.yasna_notation.proofs.Enclosing.{value_by}

-- a value before what was read after it
abbrev pub paired : {A V : Type 0} → A → Result V ASN1Error → Result (A × V) ASN1Error
paired v (Ok w) = Ok (v, w)
paired v (Err e) = Err e

itself : {A : Type 0} (may_allocate : Bool) (C : Grammar A) (S : Members) (s : Reading) (r : Result A ASN1Error) (s' : Reading) →
    DecodesContents may_allocate (Made C (λ w. w)) S s r s' → DecodesContents may_allocate C S s r s'
itself may_allocate C S s (Ok v) s' h =
    let k = h.parsed in
    record {
      parsed = record {
        prefix = k.prefix;
        rest = k.rest;
        joined = k.joined;
        member = subst (λ w. C s.mode s.levels w k.prefix) (sym k.member.2) k.member.1;
        left = k.left;
      };
      ends = h.ends;
    }
itself may_allocate C S s (Err e) s' h = h

-- where there are no parts
pub nothing_read : (s : Reading) → IsFresh s → ReadsContents false NoParts AnyNothing s (Ok tt) s
nothing_read s fresh =
    itself false NoParts AnyNothing s (unless_failed s.failed (Ok tt)) s ((end_by {make = λ w. w}).decodes s (Ok tt) s fresh (refl, refl))

module _ {A V : Type 0} {p : Bool} {B : Grammar A} {S Q : Members} {N : Does A} (q : Bool) (C : Grammar V) (first : IsFirstDecoder p B S Q N) where
  made : (v : A) (s : Reading) (k : Option ASN1Error) (y : Result V ASN1Error) (s' : Reading) → DecodesContents q C Q s (unless_failed k y) s' →
      DecodesContents q (Made C (λ w. (v, w))) Q s (unless_failed k (paired v y)) s'
  made v s (Some f) (Ok w) s' h = h
  made v s (Some f) (Err e) s' h = h
  made v s None (Ok w) s' h =
      let k = h.parsed in
      record { parsed = record { prefix = k.prefix; rest = k.rest; joined = k.joined; member = (w, k.member, refl); left = k.left }; ends = h.ends }
  made v s None (Err e) s' h = h

  -- what is after a value was read, and the value is put before it
  abbrev After : A → Does (A × V)
  After v s r s' = (y : Result V ASN1Error) × ReadsContents q C Q s y s' × (r ≡ paired v y)

  after_by : (v : A) → IsContentsDecoder q C Q (λ w. (v, w)) (After v)
  after_by v = record {
    decodes = λ s r s' fresh h.
        subst (λ z. DecodesContents q (Made C (λ w. (v, w))) Q s (unless_failed s'.failed z) s') (sym h.2) (made v s s'.failed h.0 s' h.1);
  }

  both : (s : Reading) → IsFresh s → (x : Result A ASN1Error) (m : Reading) → N s x m → (r : Result (A × V) ASN1Error) (s' : Reading) →
      AndIn After x m r s' → ReadsContents (p || q) (PartOf B C) (AnyPart S Q) s r s'
  both s fresh x m n r s' k =
      itself (p || q) (PartOf B C) (AnyPart S Q) s (unless_failed s'.failed r) s' ((then_by {make = λ w. w} first after_by).decodes s r s' fresh (x, m, n, k))

  -- where the first fails, so do they
  pub first_failed : (s : Reading) → IsFresh s → (x : Result A ASN1Error) (m : Reading) → N s x m → (e : ASN1Error) → x ≡ Err e →
      ReadsContents (p || q) (PartOf B C) (AnyPart S Q) s (Err e) m
  first_failed s fresh x m n e is = both s fresh (Err e) m (subst (λ z. N s z m) is n) (Err e) m (refl, refl)

  -- where it is read, they are what is read after it
  pub first_read : (s : Reading) → IsFresh s → (x : Result A ASN1Error) (m : Reading) → N s x m → (v : A) → x ≡ Ok v →
      (y : Result V ASN1Error) (s' : Reading) → ReadsContents q C Q m y s' → ReadsContents (p || q) (PartOf B C) (AnyPart S Q) s (paired v y) s'
  first_read s fresh x m n v is y s' h = both s fresh (Ok v) m (subst (λ z. N s z m) is n) (paired v y) s' (y, h, refl)

-- a part that is there
pub required_by : {A : Type 0} {tags_known : Bool} {ts : List Tag} {retagged may_allocate : Bool} {E : A → A → Type 0} {B : Option Tag → Grammar A}
    {S : Option Tag → Members} {Q : Members} → IsCoding E (B None) (S None) →
    IsFirstDecoder may_allocate (B None) (S None) Q (ReadsAs tags_known ts retagged may_allocate B S)
required_by laws = part_by laws value_by

-- what reads a value of a type that is known by tags decodes by them
known_by : {A : Type 0} {tags_known : Bool} {ts : List Tag} {retagged may_allocate : Bool} {B : Option Tag → Grammar A} {S : Option Tag → Members} → tags_known ≡ true →
    IsDecoderByTags ts may_allocate (B None) (S None) (ReadsAs tags_known ts retagged may_allocate B S)
known_by is = record { decodes = λ s r s' fresh h. let d = h.fresh fresh in record { decodes = d.decodes; no_match = d.no_match is } }

-- a part that may be omitted is read as the closure's calls read it
pub optional_called : {A F : Type 0} (g : Once F (MutBor Reading × Unit {0}) (Result A ASN1Error × (MutBor Reading × Unit {0}))) (f : F) (N : Does A)
    (s : Reading) (r : Result (Option A) ASN1Error) (s' : Reading) → ReadsOptional (FnOnceReturnsAtMut g f) s r s' →
    ((p q : MutBor Reading) (x : Result A ASN1Error) → g.post f (p, tt) (x, (q, tt)) → N p.now x q.now) → ReadsOptional N s r s'
optional_called {A} g f N s r s' h obeys = by_sticky s.failed h
  where
    by_sticky : (k : Option ASN1Error) →
        UnlessFailed k s r s' ((o : Outcome A) × Hands (FnOnceReturnsAtMut g f) (untagged s) o s' × (r ≡ optional o)) →
        UnlessFailed k s r s' ((o : Outcome A) × Hands N (untagged s) o s' × (r ≡ optional o))
    by_sticky (Some e) x = x
    by_sticky None x = (
      x.0,
      record { own = x.1.own; left = x.1.left; obeys = by_run N obeys (untagged s) x.1.own x.1.left x.1.obeys; comes = x.1.comes },
      x.2,
    )

-- where tags distinguish it from what is after it
pub option_first : {A V : Type 0} {tags_known others : Bool} {ts us : List Tag} {retagged may_allocate : Bool} {E : A → A → Type 0} {G : V → V → Type 0}
    {B : Option Tag → Grammar A} {S : Option Tag → Members} {C : Grammar V} {Q : Members} {encoding : Encoding A} {encodings : Encoding V} {Fits : Fitting A}
    {Fit : Fitting V} {Can : A → Type 0} {Could : V → Type 0} {a b : Bool} →
    (a ≡ true → IsNotation tags_known ts E (B None) (S None) encoding Fits Can) → (b ≡ true → AreParts others us G C Q encodings Fit Could) →
    all_known tags_known others (share_none ts (end_tag ∷ us)) (a && b) ≡ true →
    IsFirstDecoder may_allocate (OptionOf (B None)) (AnyOption (S None)) Q (ReadsOptional (ReadsAs tags_known ts retagged may_allocate B S))
option_first {tags_known = tags_known} {others = others} {ts = ts} {us = us} {a = a} {b = b} first rest e =
    let t = is_known tags_known others (share_none ts (end_tag ∷ us)) (a && b) e in
    let z = and_parts a b t.all_unambiguous in
    let x = first z.0 in
    let y = rest z.1 in
    let value = known_by t.is_first_known in
    let begins = y.begins t.is_rest_known in
    option_by x.coding (plain_by value) (unambiguous_before (x.begins t.is_first_known) begins t.none_shared) (no_match_before value t.none_shared begins y.in_range)

-- a part with a default is read as the closure's calls read it
pub default_called : {A F : Type 0} (g : Once F (MutBor Reading × Unit {0}) (Result A ASN1Error × (MutBor Reading × Unit {0}))) (f : F) (N : Does A)
    (eq : A → A → Bool) (d : A) (s : Reading) (r : Result A ASN1Error) (s' : Reading) → ReadsDefault (FnOnceReturnsAtMut g f) eq d s r s' →
    ((p q : MutBor Reading) (x : Result A ASN1Error) → g.post f (p, tt) (x, (q, tt)) → N p.now x q.now) → ReadsDefault N eq d s r s'
default_called {A} g f N eq d s r s' h obeys = by_sticky s.failed h
  where
    by_sticky : (k : Option ASN1Error) → UnlessFailed k s r s' (ReadsOrDefaults (FnOnceReturnsAtMut g f) eq d (untagged s) r s') →
        UnlessFailed k s r s' (ReadsOrDefaults N eq d (untagged s) r s')
    by_sticky (Some e) x = x
    by_sticky None x = record {
      outcome = x.outcome;
      between = x.between;
      hands = record {
        own = x.hands.own;
        left = x.hands.left;
        obeys = by_run N obeys (untagged s) x.hands.own x.hands.left x.hands.obeys;
        comes = x.hands.comes;
      };
      defaults = x.defaults;
    }

-- where tags distinguish it from what is after it
pub default_first : {A V : Type 0} {tags_known others : Bool} {ts us : List Tag} {retagged may_allocate : Bool} {E : A → A → Type 0} {G : V → V → Type 0}
    {B : Option Tag → Grammar A} {S : Option Tag → Members} {C : Grammar V} {Q : Members} {encoding : Encoding A} {encodings : Encoding V} {Fits : Fitting A}
    {Fit : Fitting V} {Can : A → Type 0} {Could : V → Type 0} {a b : Bool} (is : A → Bool) (eq : A → A → Bool) (d : A) → DetectsDefault E is d →
    ((v : A) → is v ≡ eq v d) →
    (a ≡ true → IsNotation tags_known ts E (B None) (S None) encoding Fits Can) → (b ≡ true → AreParts others us G C Q encodings Fit Could) →
    all_known tags_known others (share_none ts (end_tag ∷ us)) (a && b) ≡ true →
    IsFirstDecoder may_allocate (DefaultOf is (B None)) (Any (DefaultOf is (B None))) Q (ReadsDefault (ReadsAs tags_known ts retagged may_allocate B S) eq d)
default_first {tags_known = tags_known} {others = others} {ts = ts} {us = us} {a = a} {b = b} is eq d detects tests first rest e =
    let t = is_known tags_known others (share_none ts (end_tag ∷ us)) (a && b) e in
    let z = and_parts a b t.all_unambiguous in
    let x = first z.0 in
    let y = rest z.1 in
    let value = known_by t.is_first_known in
    let begins = y.begins t.is_rest_known in
    default_by is eq d detects tests x.coding (plain_by value) (unambiguous_before (x.begins t.is_first_known) begins t.none_shared)
    (no_match_before value t.none_shared begins y.in_range)

-- a part at the end that may be omitted
pub last_read : {A : Type 0} {E : A → A → Type 0} (tags_known : Bool) (ts : List Tag) (retagged may_allocate : Bool) (B : Option Tag → Grammar A)
    (S : Option Tag → Members) → IsCoding E (B None) (S None) → (s : Reading) → IsFresh s → (r : Result (Option A) ASN1Error) (s' : Reading) →
    ReadsOptional (ReadsAs tags_known ts retagged may_allocate B S) s r s' →
    ReadsContents (may_allocate || false) (λ m n v c. PartOf (OptionOf (B None)) NoParts m n (v, tt) c) (AnyPart (AnyOption (S None)) AnyNothing) s r s'
last_read {A} tags_known ts retagged may_allocate B S laws s fresh r s' h =
    value_of (unless_failed s'.failed r)
    ((then_by {make = λ (w : Option A × Unit {0}). w.0} (option_by laws value_by (unambiguous_before_nothing laws) (no_match_at_end value_by)) (λ v. end_by)).decodes
    s r s' fresh (r, s', h, done r))
  where
    done : (x : Result (Option A) ASN1Error) → AndIn (λ v. Done v) x s' x s'
    done (Ok v) = (refl, refl)
    done (Err e) = (refl, refl)

    value_of : (x : Result (Option A) ASN1Error) →
        DecodesContents (may_allocate || false) (Made (PartOf (OptionOf (B None)) NoParts) (λ w. w.0)) (AnyPart (AnyOption (S None)) AnyNothing) s x s' →
        DecodesContents (may_allocate || false) (λ m n v c. PartOf (OptionOf (B None)) NoParts m n (v, tt) c) (AnyPart (AnyOption (S None)) AnyNothing) s x s'
    value_of (Ok v) k =
        let y = k.parsed in
        record {
          parsed = record {
            prefix = y.prefix;
            rest = y.rest;
            joined = y.joined;
            member = subst (λ z. PartOf (OptionOf (B None)) NoParts s.mode s.levels (z, tt) y.prefix) (sym y.member.2) y.member.1;
            left = y.left;
          };
          ends = k.ends;
        }
    value_of (Err e) k = k
