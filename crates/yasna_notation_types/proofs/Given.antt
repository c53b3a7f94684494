-- What reading an element with a given tag does.
use Rattle.std.proofs.Common.{◌≡◌, ◌∷◌, ◌||◌, [], ℕ, List, Bool, true, false, Option, Some, None, Result, Ok, Err, length, refl, sym, ap, subst, arith}
use Rattle.std.specs.List.{list_any}
use Rattle.yasna_base.specs.declared.error.ASN1Error.{ASN1Error}
use Rattle.yasna_base.specs.declared.models.tagged_der_value.TaggedDerValue.{TaggedDerValue}
use Rattle.yasna_base.specs.declared.tag.Tag.{Tag}
use Rattle.yasna_base.specs.Beginnings.{is_tag}
use Rattle.yasna_base.specs.Coding.{Any}
use Rattle.yasna_base.specs.Error.{BlamesBytes, kind_of}
use Rattle.yasna_base.specs.Identifier.{BeginsWithTag}
use Rattle.yasna_base.specs.Raw.{IsRaw}
use Rattle.yasna_base.specs.TaggedDerValue.{raw_of}
use Rattle.yasna_base.proofs.Beginnings.{tags_differ}
use Rattle.yasna_base.proofs.Identifier.{begins_once, begins_some, begins_with}
use Rattle.yasna_bytes.specs.Rejection.{IsElsewhere, nothing, another}
use Rattle.yasna_bytes.proofs.Rejection.{blames_not_memory}
use Rattle.yasna_reader.specs.ByTags.{NoMatchElsewhere}
use Rattle.yasna_reader.specs.Decodes.{Decodes, Explains, StickyExplains}
use Rattle.yasna_reader.specs.Lookahead.{LooksAhead}
use Rattle.yasna_reader.specs.Raw.{ReadsRaw}
use Rattle.yasna_reader.specs.State.{Reading}
use Rattle.yasna_reader.proofs.NextTag.{looked, found_other}
use Rattle.yasna_notation.specs.Notation.{ReadsAs}
use Rattle.yasna_notation.proofs.OneTag.{any_read}
use Rattle.yasna_notation_types.specs.AnyUnder.{EncodesUnder, given_begins, is_same_tag}
use Rattle.yasna_notation_types.specs.OpenChoice.{EncodesRawElement, any_begins}

or_none : (b : Bool) → b || false ≡ b
or_none true = refl
or_none false = refl

-- the one tag of a list
one_of : (u t : Tag) (b : Bool) → list_any (is_tag u) (t ∷ []) ≡ b → is_tag u t ≡ b
one_of u t b e = subst (λ z. z ≡ b) (or_none (is_tag u t)) e

-- where a tag is, another one isn't
there : (t : Tag) (s : List ℕ) → BeginsWithTag t s → IsElsewhere t s → ⊥
there t s x (nothing e) = absurd (omega (arith, begins_some t s x, ap length e))
there t s x (another u range other y) = other (begins_once u t s y x)

module _ (t u : Tag) (s : Reading) (x : Result Tag ASN1Error) (looks : LooksAhead s.failed s.left x) (is : x ≡ Ok u) where
  -- what reading such an element does
  abbrev ReadsGiven : Result TaggedDerValue ASN1Error → Reading → Type 0
  ReadsGiven r s' = ReadsAs true (t ∷ []) false true (λ v. EncodesUnder t) (λ v. Any (EncodesUnder t)) s r s'

  given_decodes : BeginsWithTag u s.left → is_tag u t ≡ true → (r : Result TaggedDerValue ASN1Error) (s' : Reading) →
      Decodes true EncodesRawElement (Any IsRaw) s r s' → Decodes true (EncodesUnder t) (Any (EncodesUnder t)) s r s'
  given_decodes found same (Ok v) s' d =
      let here = subst (BeginsWithTag v.tag) (sym d.joined) (begins_with v.tag d.prefix d.rest (any_begins s.mode s.levels v d.prefix d.member)) in
      record {
        prefix = d.prefix;
        rest = d.rest;
        joined = d.joined;
        member = (d.member, subst (λ z. is_tag z t ≡ true) (begins_once u v.tag s.left found here) same);
        left = d.left;
      }
  given_decodes found same (Err e) s' d = (
    record { explains = explains e d.0.explains; failed = failed s'.failed d.0.failed; further = d.0.further; same = d.0.same },
    d.1,
  )
    where
      explains : (e : ASN1Error) → Explains true (Any IsRaw s.mode s.levels) s.left e → Explains true (Any (EncodesUnder t) s.mode s.levels) s.left e
      explains e y = record { none = λ q b r i j. y.none q b r i (raw_of j.0, j.1.0); memory = y.memory }

      failed : (k : Option ASN1Error) → StickyExplains true (Any IsRaw s.mode s.levels) s.left k →
          StickyExplains true (Any (EncodesUnder t) s.mode s.levels) s.left k
      failed None y = tt
      failed (Some e) y = explains e y

  given_no_match : BeginsWithTag t s.left → (r : Result TaggedDerValue ASN1Error) (s' : Reading) → NoMatchElsewhere (t ∷ []) s r s'
  given_no_match found (Ok v) s' = tt
  given_no_match found (Err e) s' = λ elsewhere. absurd (there t s.left found elsewhere.0)

  -- one with that tag
  pub given_read : list_any (is_tag u) (t ∷ []) ≡ true → (r : Result TaggedDerValue ASN1Error) (s' : Reading) → ReadsRaw IsRaw raw_of s r s' → ReadsGiven r s'
  given_read among r s' h =
      let any = any_read s r s' h in
      let same = one_of u t true among in
      record {
        fresh = λ fresh.
            let found = looked s x (Ok u) looks fresh.0 is in
            record {
              decodes = given_decodes found same r s' (any.fresh fresh).decodes;
              no_match = λ _. given_no_match (subst (λ z. BeginsWithTag z s.left) (is_same_tag u t same) found) r s';
            };
        replaced = λ e v not range failed waits. absurd (cc);
        repeats = any.repeats;
      }

  -- one with another tag
  pub another_read : list_any (is_tag u) (t ∷ []) ≡ false → (e : ASN1Error) → BlamesBytes (kind_of e) → ReadsGiven (Err e) s
  another_read among e blames =
      let other = tags_differ u t (one_of u t false among) in
      record {
        fresh = λ fresh.
            let found = looked s x (Ok u) looks fresh.0 is in
            record {
              decodes = (
                record {
                  explains = record {
                    none = λ q b r i k. found_other u t s.left b r found (given_begins t s.mode s.levels b k) i other;
                    memory = λ q. absurd (blames_not_memory blames q);
                  };
                  failed = subst (λ k. StickyExplains true (Any (EncodesUnder t) s.mode s.levels) s.left k) (sym fresh.0) tt;
                  further = omega arith;
                  same = refl;
                },
                λ i. (refl, blames),
              );
              no_match = λ _ elsewhere. (refl, blames);
            };
        replaced = λ f v not range failed waits. absurd (cc);
        repeats = λ k failed. absurd (let y = subst (λ z. LooksAhead z s.left x) failed looks in cc);
      }
