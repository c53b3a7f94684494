-- What reading parts that may be omitted does, before elements with any other tag, and what reading these elements does.
use Rattle.std.proofs.Common.{◌≡◌, ◌∷◌, ◌++◌, [], ◌&&◌, ℕ, List, Bool, true, false, not, Option, None, Vec, Result, Ok, Err, inl, inr, length, refl, sym, ap, subst, ◌∙◌, arith}
use Rattle.std.proofs.lemmas.Bool.{and_parts}
use Rattle.std.specs.Global.{Global}
use Rattle.std.specs.List.{list_any}
use Rattle.std.specs.Prelude.{◌⊎◌, ◌||◌}
use Rattle.yasna_base.specs.declared.error.ASN1Error.{ASN1Error}
use Rattle.yasna_base.specs.declared.error.ASN1ErrorKind.TheVariants.{OutOfMemory}
use Rattle.yasna_base.specs.declared.tag.Tag.{Tag}
use Rattle.yasna_base.specs.Beginnings.{is_tag}
use Rattle.yasna_base.specs.Coding.{IsCoding, Any}
use Rattle.yasna_base.specs.Default.{DetectsDefault, DefaultOf}
use Rattle.yasna_base.specs.Error.{kind_of}
use Rattle.yasna_base.specs.Exact.{Fitting}
use Rattle.yasna_base.specs.Grammar.{Grammar, Members, Encoding}
use Rattle.yasna_base.specs.Identifier.{AtEnd, BeginsWithTag, StartsElement, end_tag}
use Rattle.yasna_base.specs.Optional.{OptionOf, AnyOption}
use Rattle.yasna_base.specs.SequenceOf.{ElementsOf, AnyElements}
use Rattle.yasna_base.proofs.Beginnings.{tags_differ}
use Rattle.yasna_base.proofs.Identifier.{begins_once, begins_with, begins_some}
use Rattle.yasna_base.proofs.SequenceOf.{elements_contents}
use Rattle.yasna_bytes.specs.Rejection.{IsElsewhere, another}
use Rattle.yasna_bytes.proofs.Rejection.{at_end_elsewhere, not_at_end}
use Rattle.yasna_reader.specs.ByTags.{AreElsewhere}
use Rattle.yasna_reader.specs.Decodes.{DecodesContents}
use Rattle.yasna_reader.specs.Lookahead.{LooksAhead}
use Rattle.yasna_reader.specs.Optional.{ReadsOptional, ReadsDefault}
use Rattle.yasna_reader.specs.Parse.{unless_failed}
use Rattle.yasna_reader.specs.State.{Reading, IsFresh, Does}
use Rattle.yasna_reader.proofs.ByTags.{IsDecoderByTags, plain_by}
use Rattle.yasna_reader.proofs.DefaultParts.{default_by}
use Rattle.yasna_reader.proofs.NextTag.{looked}
use Rattle.yasna_reader.proofs.OptionalParts.{IsFirstDecoder, NoMatchBefore, option_by}
use Rattle.yasna_notation.specs.Notation.{IsNotation, ReadsAs}
use Rattle.yasna_notation.specs.Parts.{ReadsContents}
use Rattle.yasna_notation_constraints.specs.TestedDefaults.{true_not_false}
use Rattle.yasna_notation_types.specs.Beginning.{BeginWithin, StartsWithin, none_may, within_unambiguous, fails}
use Rattle.yasna_notation_types.specs.OpenChoice.{is_other}
use Rattle.yasna_notation_types.specs.Others.{BeginsOther, OthersOf, AnyOthers, LooksFor, elements_start, possible_known}

elsewhere_one : (may : Tag → Bool) (t : Tag) (s : List ℕ) → not (is_tag t end_tag || may t) ≡ true → StartsWithin may s ⊎ AtEnd s → IsElsewhere t s
elsewhere_one may t s e (inl z) =
    another z.tag z.in_range
    (λ f. true_not_false (may t) (subst (λ u. may u ≡ true) f z.passes) (fails (is_tag t end_tag) (may t) e).second) z.begins
elsewhere_one may t s e (inr a) = at_end_elsewhere t s (tags_differ t end_tag (fails (is_tag t end_tag) (may t) e).first) a

all_elsewhere : (may : Tag → Bool) (ts : List Tag) (s : List ℕ) → none_may may ts ≡ true → StartsWithin may s ⊎ AtEnd s → AreElsewhere ts s
all_elsewhere may [] s e x = tt
all_elsewhere may (t ∷ ts) s e x =
    let y = and_parts (not (is_tag t end_tag || may t)) (none_may may ts) e in
    (elsewhere_one may t s y.0 x, all_elsewhere may ts s y.1 x)

-- what decodes by tags has no match before contents that begin with others
within_no_match : {A : Type 0} {ts : List Tag} {may_allocate : Bool} {B : Grammar A} {S Q : Members} {N : Does A} {may : Tag → Bool} → IsDecoderByTags ts may_allocate B S N →
    none_may may ts ≡ true → BeginWithin may Q → NoMatchBefore N Q
within_no_match {ts = ts} {may = may} value none within = record {
  no_match = λ s e s' fresh h q.
      (value.decodes s (Err e) s' fresh h).no_match
      (all_elsewhere may ts s.left none
      (subst (λ z. StartsWithin may z ⊎ AtEnd z) (sym q.joined) (within.at s.mode s.levels q.contents q.rest q.ends q.member)));
}

-- what reads a value of a type with known tags decodes by them
known_by : {A : Type 0} {tags_known : Bool} {ts : List Tag} {retagged may_allocate : Bool} {B : Option Tag → Grammar A} {S : Option Tag → Members} → tags_known ≡ true →
    IsDecoderByTags ts may_allocate (B None) (S None) (ReadsAs tags_known ts retagged may_allocate B S)
known_by is = record { decodes = λ s r s' fresh h. let d = h.fresh fresh in record { decodes = d.decodes; no_match = d.no_match is } }

-- a part that may be omitted
pub possible_first : {A : Type 0} {tags_known : Bool} {ts : List Tag} {retagged may_allocate : Bool} {E : A → A → Type 0}
    {B : Option Tag → Grammar A} {S : Option Tag → Members} {Q : Members} {encoding : Encoding A} {Fits : Fitting A} {Can : A → Type 0} {a b : Bool}
    (may : Tag → Bool) → (a ≡ true → IsNotation tags_known ts E (B None) (S None) encoding Fits Can) → (b ≡ true → BeginWithin may Q) →
    tags_known && (none_may may ts && (a && b)) ≡ true →
    IsFirstDecoder may_allocate (OptionOf (B None)) (AnyOption (S None)) Q (ReadsOptional (ReadsAs tags_known ts retagged may_allocate B S))
possible_first {tags_known = tags_known} {ts = ts} {a = a} {b = b} may first within e =
    let t = possible_known tags_known (none_may may ts) a b e in
    let x = first t.first_unambiguous in
    let value = known_by t.is_known in
    let after = within t.others_unambiguous in
    option_by x.coding (plain_by value) (within_unambiguous x.coding (x.begins t.is_known) after t.none_shared) (within_no_match value t.none_shared after)

-- a part with a default
pub possible_default_first : {A : Type 0} {tags_known : Bool} {ts : List Tag} {retagged may_allocate : Bool} {E : A → A → Type 0}
    {B : Option Tag → Grammar A} {S : Option Tag → Members} {Q : Members} {encoding : Encoding A} {Fits : Fitting A} {Can : A → Type 0} {a b : Bool}
    (may : Tag → Bool) (is : A → Bool) (eq : A → A → Bool) (d : A) → DetectsDefault E is d → ((v : A) → is v ≡ eq v d) →
    (a ≡ true → IsNotation tags_known ts E (B None) (S None) encoding Fits Can) → (b ≡ true → BeginWithin may Q) →
    tags_known && (none_may may ts && (a && b)) ≡ true →
    IsFirstDecoder may_allocate (DefaultOf is (B None)) (Any (DefaultOf is (B None))) Q (ReadsDefault (ReadsAs tags_known ts retagged may_allocate B S) eq d)
possible_default_first {tags_known = tags_known} {ts = ts} {a = a} {b = b} may is eq d detects tests first within e =
    let t = possible_known tags_known (none_may may ts) a b e in
    let x = first t.first_unambiguous in
    let value = known_by t.is_known in
    let after = within t.others_unambiguous in
    default_by is eq d detects tests x.coding (plain_by value) (within_unambiguous x.coding (x.begins t.is_known) after t.none_shared)
    (within_no_match value t.none_shared after)

-- what a look at the next tag found
pub looks_found : (ts : List Tag) (s z : Reading) (x : Result Tag ASN1Error) → LooksAhead z.failed z.left x → z ≡ s → (t : Tag) → x ≡ Ok t → (b : Bool) →
    b ≡ list_any (is_tag t) ts → LooksFor ts s b
looks_found ts s z x h at t is b e =
    let k = subst (λ (y : Reading). LooksAhead y.failed y.left x) at h in
    record {
      yes = λ failed f. (t, looked s x (Ok t) k failed is, sym e ∙ f);
      no = λ failed f u range c. subst (λ y. list_any (is_tag y) ts ≡ false) (begins_once t u s.left (looked s x (Ok t) k failed is) c) (sym e ∙ f);
    }

pub looks_none : (ts : List Tag) (s z : Reading) (x : Result Tag ASN1Error) → LooksAhead z.failed z.left x → z ≡ s → (e : ASN1Error) → x ≡ Err e →
    LooksFor ts s false
looks_none ts s z x h at e is =
    let k = subst (λ (y : Reading). LooksAhead y.failed y.left x) at h in
    record { yes = λ failed f. absurd (cc); no = λ failed f u range c. absurd ((looked s x (Err e) k failed is).1 u range c) }

module _ {A : Type 0} {E : A → A → Type 0} {B : Grammar A} {S : Members} (x : IsCoding E B S) (ts : List Tag) (s : Reading) where
  abbrev Elements : Grammar (Vec A Global)
  Elements m n v c = ElementsOf B m n v.items c

  -- if the next element has one of the tags, there are no such elements
  pub others_rejected : (b : Bool) → LooksFor ts s b → b ≡ true → is_other ts end_tag ≡ true → IsFresh s → (e : ASN1Error) →
      (kind_of e ≡ OutOfMemory → ⊥) → ReadsContents true (OthersOf ts Elements) (AnyOthers ts (AnyElements S)) s (Err e) s
  others_rejected b looks is unambiguous fresh e plain =
      subst (λ k. DecodesContents true (OthersOf ts Elements) (AnyOthers ts (AnyElements S)) s (unless_failed k (Err e)) s) (sym fresh.0)
      (record { none = λ q d y i j p. none d y i j p.1 (elements_start x s.mode s.levels d p.0); memory = λ q. refl })
    where
      y : (t : Tag) × BeginsWithTag t s.left × (list_any (is_tag t) ts ≡ true)
      y = looks.yes fresh.0 is

      not_end : y.0 ≡ end_tag → ⊥
      not_end f = true_not_false (list_any (is_tag y.0) ts) y.2
          (subst (λ u. list_any (is_tag u) ts ≡ false) (sym f) (other (list_any (is_tag end_tag) ts) (and_parts (not (list_any (is_tag end_tag) ts)) true unambiguous).0))
        where
          other : (a : Bool) → not a ≡ true → a ≡ false
          other true e = absurd (cc)
          other false e = refl

      none : (d z : List ℕ) → s.left ≡ d ++ z → AtEnd z → BeginsOther ts d → (d ≡ []) ⊎ StartsElement d → ⊥
      none d z i j other (inl f) = not_at_end y.0 z not_end j (subst (BeginsWithTag y.0) (i ∙ ap (λ w. w ++ z) f) y.1)
      none d z i j other (inr o) =
          let there = subst (BeginsWithTag o.tag) (sym i) (begins_with o.tag d z o.begins) in
          let same = begins_once y.0 o.tag s.left y.1 there in
          true_not_false (list_any (is_tag y.0) ts) y.2 (subst (λ u. list_any (is_tag u) ts ≡ false) (sym same) (other o.tag o.begins))

  -- if it has none of the tags, what reads elements reads such
  pub others_read : (b : Bool) → LooksFor ts s b → b ≡ false → IsFresh s → (r : Result (Vec A Global) ASN1Error) (s' : Reading) →
      ReadsContents true Elements (AnyElements S) s r s' → ReadsContents true (OthersOf ts Elements) (AnyOthers ts (AnyElements S)) s r s'
  others_read b looks is fresh r s' h = go (unless_failed s'.failed r) h
    where
      begins_other : (prefix rest : List ℕ) → s.left ≡ prefix ++ rest → AnyElements S s.mode s.levels prefix → BeginsOther ts prefix
      begins_other prefix rest j p t c = by_start (elements_start x s.mode s.levels prefix p)
        where
          by_start : (prefix ≡ []) ⊎ StartsElement prefix → list_any (is_tag t) ts ≡ false
          by_start (inl f) = absurd (omega (arith, begins_some t prefix c, ap length f))
          by_start (inr o) =
              let there = subst (BeginsWithTag o.tag) (sym j) (begins_with o.tag prefix rest o.begins) in
              subst (λ u. list_any (is_tag u) ts ≡ false) (begins_once o.tag t prefix o.begins c) (looks.no fresh.0 is o.tag o.in_range there)

      go : (y : Result (Vec A Global) ASN1Error) → DecodesContents true Elements (AnyElements S) s y s' →
          DecodesContents true (OthersOf ts Elements) (AnyOthers ts (AnyElements S)) s y s'
      go (Ok v) k = record {
        parsed = record {
          prefix = k.parsed.prefix;
          rest = k.parsed.rest;
          joined = k.parsed.joined;
          member = (
            k.parsed.member,
            begins_other k.parsed.prefix k.parsed.rest k.parsed.joined
                ((elements_contents x).meaning.among s.mode s.levels v.items k.parsed.prefix k.parsed.member),
          );
          left = k.parsed.left;
        };
        ends = λ d z i j p. k.ends d z i j p.0;
      }
      go (Err e) k = record { none = λ q d z i j p. k.none q d z i j p.0; memory = k.memory }
