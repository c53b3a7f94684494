-- What reading a value does that represents another.
use Rattle.std.proofs.Common.{◌≡◌, ◌∷◌, [], List, Bool, true, Option, Some, None, Result, Ok, Err, sym, ap, subst}
use Rattle.yasna_base.specs.declared.error.ASN1Error.{ASN1Error}
use Rattle.yasna_base.specs.declared.tag.Tag.{Tag}
use Rattle.yasna_base.specs.Grammar.{Grammar, Members}
use Rattle.yasna_reader.specs.Decodes.{DecodesContents}
use Rattle.yasna_reader.specs.Parse.{unless_failed}
use Rattle.yasna_reader.specs.State.{Reading, untagged}
use Rattle.yasna_notation.specs.Notation.{DecodesAs, ReadsAs}
use Rattle.yasna_notation.specs.Parts.{ReadsContents}

module _ {U A : Type 0} (f : U → A) (tags_known : Bool) (ts : List Tag) (may_allocate : Bool) (B : Grammar A) (S : Members) (s : Reading) where
  decodes_for : (u : U) (v : A) (s' : Reading) → f u ≡ v → DecodesAs tags_known ts may_allocate B S s (Ok v) s' →
      DecodesAs tags_known ts may_allocate (λ m n w b. B m n (f w) b) S s (Ok u) s'
  decodes_for u v s' is h =
      let k = h.decodes in
      record {
        decodes = record {
          prefix = k.prefix;
          rest = k.rest;
          joined = k.joined;
          member = subst (λ w. B s.mode s.levels w k.prefix) (sym is) k.member;
          left = k.left;
        };
        no_match = λ _. tt;
      }

  fails_for : (e : ASN1Error) (s' : Reading) → DecodesAs {A = A} tags_known ts may_allocate B S s (Err e) s' →
      DecodesAs {A = U} tags_known ts may_allocate (λ m n w b. B m n (f w) b) S s (Err e) s'
  fails_for e s' h = record { decodes = h.decodes; no_match = h.no_match }

module _ {U A : Type 0} (f : U → A) (tags_known : Bool) (ts : List Tag) (retagged may_allocate : Bool) (B : Option Tag → Grammar A) (S : Option Tag → Members)
    (s : Reading) where
  -- a value that represents one that was read
  pub represented_by : (u : U) (v : A) (s' : Reading) → f u ≡ v → ReadsAs tags_known ts retagged may_allocate B S s (Ok v) s' →
      ReadsAs tags_known ts retagged may_allocate (λ t m n w b. B t m n (f w) b) S s (Ok u) s'
  represented_by u v s' is h = record {
    fresh = λ fresh. decodes_for f tags_known ts may_allocate (B None) (S None) s u v s' is (h.fresh fresh);
    replaced = λ may t not range failed waits.
        decodes_for f true (t ∷ []) may_allocate (B (Some t)) (S (Some t)) (untagged s) u v (untagged s') is (h.replaced may t not range failed waits);
    repeats = λ e failed. absurd (let x = (h.repeats e failed).0 in cc);
  }

  -- no value, where the read of the one that it represents fails
  pub represented_by_none : (e : ASN1Error) (s' : Reading) → ReadsAs {A = A} tags_known ts retagged may_allocate B S s (Err e) s' →
      ReadsAs {A = U} tags_known ts retagged may_allocate (λ t m n w b. B t m n (f w) b) S s (Err e) s'
  represented_by_none e s' h = record {
    fresh = λ fresh. fails_for f tags_known ts may_allocate (B None) (S None) s e s' (h.fresh fresh);
    replaced = λ may t not range failed waits.
        fails_for f true (t ∷ []) may_allocate (B (Some t)) (S (Some t)) (untagged s) e (untagged s') (h.replaced may t not range failed waits);
    repeats = λ d failed.
        let x = h.repeats d failed in
        let same : e ≡ d = let y = x.0 in cc in
        (ap (λ z. Err z) same, x.1);
  }

  -- a value that represents the one that a reading returned
  pub read_for : (u : U) (v : A) (r : Result A ASN1Error) (s' : Reading) → r ≡ Ok v → f u ≡ v → ReadsAs tags_known ts retagged may_allocate B S s r s' →
      ReadsAs tags_known ts retagged may_allocate (λ t m n w b. B t m n (f w) b) S s (Ok u) s'
  read_for u v r s' was is h = represented_by u v s' is (subst (λ x. ReadsAs tags_known ts retagged may_allocate B S s x s') was h)

  -- no value, where the reading of the one that it represents returned an Err
  pub failed_for : (e : ASN1Error) (r : Result A ASN1Error) (s' : Reading) → r ≡ Err e → ReadsAs tags_known ts retagged may_allocate B S s r s' →
      ReadsAs {A = U} tags_known ts retagged may_allocate (λ t m n w b. B t m n (f w) b) S s (Err e) s'
  failed_for e r s' was h = represented_by_none e s' (subst (λ x. ReadsAs tags_known ts retagged may_allocate B S s x s') was h)

module _ {U A : Type 0} (f : U → A) (may_allocate : Bool) (C : Grammar A) (S : Members) (s : Reading) where
  read_or_failed : (u : U) (v : A) (failed : Option ASN1Error) (s' : Reading) → f u ≡ v →
      DecodesContents may_allocate C S s (unless_failed failed (Ok v)) s' →
      DecodesContents may_allocate (λ m n w c. C m n (f w) c) S s (unless_failed failed (Ok u)) s'
  read_or_failed u v None s' is h =
      let k = h.parsed in
      record {
        parsed = record {
          prefix = k.prefix;
          rest = k.rest;
          joined = k.joined;
          member = subst (λ w. C s.mode s.levels w k.prefix) (sym is) k.member;
          left = k.left;
        };
        ends = h.ends;
      }
  read_or_failed u v (Some e) s' is h = h

  still_failed : (e : ASN1Error) (failed : Option ASN1Error) (s' : Reading) → DecodesContents {A = A} may_allocate C S s (unless_failed failed (Err e)) s' →
      DecodesContents {A = U} may_allocate (λ m n w c. C m n (f w) c) S s (unless_failed failed (Err e)) s'
  still_failed e None s' h = h
  still_failed e (Some d) s' h = h

  -- a value that represents the one that contents encode
  pub contents_for : (u : U) (v : A) (r : Result A ASN1Error) (s' : Reading) → r ≡ Ok v → f u ≡ v → ReadsContents may_allocate C S s r s' →
      ReadsContents may_allocate (λ m n w c. C m n (f w) c) S s (Ok u) s'
  contents_for u v r s' was is h = read_or_failed u v s'.failed s' is (subst (λ x. ReadsContents may_allocate C S s x s') was h)

  -- no value, where the reading of the contents returned an Err
  pub no_contents_for : (e : ASN1Error) (r : Result A ASN1Error) (s' : Reading) → r ≡ Err e → ReadsContents may_allocate C S s r s' →
      ReadsContents {A = U} may_allocate (λ m n w c. C m n (f w) c) S s (Err e) s'
  no_contents_for e r s' was h = still_failed e s'.failed s' (subst (λ x. ReadsContents may_allocate C S s x s') was h)
