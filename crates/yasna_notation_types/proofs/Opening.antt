-- What reading an extensible CHOICE does.
use Rattle.std.proofs.Common.{◌≡◌, ◌++◌, [], ℕ, List, Bool, true, false, not, Option, Some, None, Result, Ok, Err, inl, inr, refl, sym, ap, subst}
use Rattle.std.proofs.lemmas.Bool.{and_parts, and_from, not-true}
use Rattle.std.specs.List.{list_any}
use Rattle.yasna_base.specs.declared.error.ASN1Error.{ASN1Error}
use Rattle.yasna_base.specs.declared.models.tagged_der_value.TaggedDerValue.{TaggedDerValue}
use Rattle.yasna_base.specs.declared.tag.Tag.{Tag}
use Rattle.yasna_base.specs.Beginnings.{is_tag}
use Rattle.yasna_base.specs.Choice.{EitherOf, AnyEither}
use Rattle.yasna_base.specs.Coding.{Any}
use Rattle.yasna_base.specs.Exact.{Fitting}
use Rattle.yasna_base.specs.Grammar.{Grammar, Members, Encoding}
use Rattle.yasna_base.specs.Identifier.{BeginsWithTag}
use Rattle.yasna_base.specs.Raw.{IsRaw}
use Rattle.yasna_base.specs.TaggedDerValue.{raw_of}
use Rattle.yasna_base.proofs.Identifier.{begins_once, begins_with}
use Rattle.yasna_reader.specs.Decodes.{Decodes, RepeatsError, Explains, StickyExplains}
use Rattle.yasna_reader.specs.Lookahead.{LooksAhead}
use Rattle.yasna_reader.specs.Raw.{ReadsRaw}
use Rattle.yasna_reader.specs.State.{Reading}
use Rattle.yasna_reader.proofs.Choices.{the_choice, others_of}
use Rattle.yasna_reader.proofs.NextTag.{looked, found_none}
use Rattle.yasna_reader.proofs.PartsByTags.{differs_from}
use Rattle.yasna_reader.proofs.Tuples.{seen, chosen}
use Rattle.yasna_notation.specs.declared.choices.Either.{Either}
use Rattle.yasna_notation.specs.declared.choices.Either.TheVariants.{First, Second}
use Rattle.yasna_notation.specs.Choices.{ReadsFound, sides}
use Rattle.yasna_notation.specs.Notation.{IsNotation, ReadsAs}
use Rattle.yasna_notation.proofs.OneTag.{any_read}
use Rattle.yasna_notation_constraints.specs.TestedDefaults.{true_not_false}
use Rattle.yasna_notation_types.specs.OpenChoice.{EncodesRawElement, EncodesOther, is_other, any_begins, open_laws}

repeats_seen : {A U : Type 0} (f : A → U) (s : Reading) (x : Result A ASN1Error) (s' : Reading) → RepeatsError s x s' → RepeatsError s (seen f x) s'
repeats_seen f s (Ok v) s' h e failed = absurd (let x = (h e failed).0 in cc)
repeats_seen f s (Err d) s' h e failed =
    let x = h e failed in
    let same : d ≡ e = let y = x.0 in cc in
    (ap (λ z. Err z) same, x.1)

-- a tag that is none of these isn't among them
not_among : (ts : List Tag) (t u : Tag) → t ≡ u → list_any (is_tag t) ts ≡ true → is_other ts u ≡ true → ⊥
not_among ts t u e is other =
    true_not_false (list_any (is_tag u) ts) (subst (λ z. list_any (is_tag z) ts ≡ true) e is)
    (not-true (list_any (is_tag u) ts) (and_parts (not (list_any (is_tag u) ts)) true other).0)

is_none : (ts : List Tag) (t u : Tag) → t ≡ u → list_any (is_tag t) ts ≡ false → is_other ts u ≡ true
is_none ts t u e is =
    and_from (not (list_any (is_tag u) ts)) true (ap not (subst (λ z. list_any (is_tag z) ts ≡ false) e is)) refl

module _ {A : Type 0} {ts : List Tag} {E : A → A → Type 0} {B : Grammar A} {S : Members} {encoding : Encoding A} {Fits : Fitting A}
    {Can : A → Type 0} (laws : IsNotation true ts E B S encoding Fits Can) (s : Reading) (x : Result Tag ASN1Error) (looks : LooksAhead s.failed s.left x) where
  -- what reading such a CHOICE does
  abbrev ReadsOpen : Result (Either A TaggedDerValue) ASN1Error → Reading → Type 0
  ReadsOpen r s' = ReadsAs false [] false true (λ u m n v b. EitherOf B (EncodesOther ts) m n (sides v) b) (λ u. AnyEither S (Any (EncodesOther ts)))
      s r s'

  -- one of the types that are known
  pub known_read : {may_allocate : Bool} (t : Tag) → x ≡ Ok t → list_any (is_tag t) ts ≡ true → (r : Result A ASN1Error) (s' : Reading) → ReadsFound ts may_allocate B S t s r s' →
      ReadsOpen (seen First r) s'
  known_read {may_allocate} t is among r s' h = record {
    fresh = λ fresh.
        let found = looked s x (Ok t) looks fresh.0 is in
        record {
          decodes = chosen may_allocate true B S (λ m n v b. EitherOf B (EncodesOther ts) m n (sides v) b) (AnyEither S (Any (EncodesOther ts))) First
              (λ m n v b y. y) (λ e. refl) s (only found) r s' (h.decodes fresh found).decodes;
          no_match = λ e. absurd (cc);
        };
    replaced = λ e u not range failed waits. absurd (cc);
    repeats = repeats_seen First s r s' h.repeats;
  }
    where
      only : BeginsWithTag t s.left → (b r : List ℕ) → s.left ≡ b ++ r → AnyEither S (Any (EncodesOther ts)) s.mode s.levels b → S s.mode s.levels b
      only found b r e (inl z) = z
      only found b r e (inr z) =
          let u = z.0.tag in
          let there = subst (BeginsWithTag u) (sym e) (begins_with u b r (any_begins s.mode s.levels z.0 b z.1.0)) in
          absurd (not_among ts t u (begins_once t u s.left found there) among z.1.1)

  -- an element of another tag
  other_decodes : (t : Tag) → BeginsWithTag t s.left → list_any (is_tag t) ts ≡ false → (r : Result TaggedDerValue ASN1Error) (s' : Reading) →
      Decodes true EncodesRawElement (Any IsRaw) s r s' → Decodes true (EncodesOther ts) (Any (EncodesOther ts)) s r s'
  other_decodes t found none (Ok v) s' d =
      let there = subst (BeginsWithTag v.tag) (sym d.joined) (begins_with v.tag d.prefix d.rest (any_begins s.mode s.levels v d.prefix d.member)) in
      record {
        prefix = d.prefix;
        rest = d.rest;
        joined = d.joined;
        member = (d.member, is_none ts t v.tag (begins_once t v.tag s.left found there) none);
        left = d.left;
      }
  other_decodes t found none (Err e) s' d = (
    record { explains = explains e d.0.explains; failed = failed s'.failed d.0.failed; further = d.0.further; same = d.0.same },
    d.1,
  )
    where
      explains : (e : ASN1Error) → Explains true (Any IsRaw s.mode s.levels) s.left e →
          Explains true (Any (EncodesOther ts) s.mode s.levels) s.left e
      explains e y = record { none = λ q b r i j. y.none q b r i (raw_of j.0, j.1.0); memory = y.memory }

      failed : (k : Option ASN1Error) → StickyExplains true (Any IsRaw s.mode s.levels) s.left k →
          StickyExplains true (Any (EncodesOther ts) s.mode s.levels) s.left k
      failed None y = tt
      failed (Some e) y = explains e y

  pub other_read : (t : Tag) → x ≡ Ok t → list_any (is_tag t) ts ≡ false → (r : Result TaggedDerValue ASN1Error) (s' : Reading) →
      ReadsRaw IsRaw raw_of s r s' → ReadsOpen (seen Second r) s'
  other_read t is none r s' h =
      let any = any_read s r s' h in
      record {
        fresh = λ fresh.
            let found = looked s x (Ok t) looks fresh.0 is in
            let only = others_of t s found (laws.begins refl) (differs_from t ts (ap not none)) (the_choice s (AnyEither S (Any (EncodesOther ts)))) in
            record {
              decodes = chosen true true (EncodesOther ts) (Any (EncodesOther ts)) (λ m n v b. EitherOf B (EncodesOther ts) m n (sides v) b)
                  (AnyEither S (Any (EncodesOther ts))) Second (λ m n v b y. y) (λ e. e) s only.only r s'
                  (other_decodes t found none r s' (any.fresh fresh).decodes);
              no_match = λ e. absurd (cc);
            };
        replaced = λ e u not range failed waits. absurd (cc);
        repeats = repeats_seen Second s r s' any.repeats;
      }

  -- no tag was found
  pub none_read : (e : ASN1Error) → x ≡ Err e → ReadsOpen (Err e) s
  none_read e is = record {
    fresh = λ fresh. record {
      decodes = found_none true (open_laws laws).coding s fresh e (looked s x (Err e) looks fresh.0 is);
      no_match = λ f. absurd (cc);
    };
    replaced = λ f u not range failed waits. absurd (cc);
    repeats = λ k failed. let f = subst (λ z. LooksAhead z s.left x) failed looks in let same : e ≡ k = cc in (ap (λ z. Err z) same, refl);
  }
