-- What reading the parts of a SET does where its value represents theirs.
use Rattle.std.proofs.Common.{◌≡◌, ◌∷◌, [], ℕ, List, Option, Some, None, Result, Ok, Err, sym, subst}
use Rattle.yasna_base.specs.declared.error.ASN1Error.{ASN1Error}
use Rattle.yasna_reader.specs.declared.set.SetElement.{SetElement}
use Rattle.yasna_reader.specs.Parse.{unless_failed}
use Rattle.yasna_reader.specs.Set.{SetReading, all_taken}
use Rattle.yasna_notation_types.specs.SetParts.{Pieced}
use Rattle.yasna_notation_types.specs.SetReading.{encodings_of, ReadsPicks, ReadsSetParts}

module _ {U V : Type 0} (f : U → V) (Q : V → List (List ℕ) → Type 0) (ps : List (List ℕ)) where
  taken_for : (u : U) (v : V) (failed : Option ASN1Error) (l : List SetElement) → f u ≡ v →
      ReadsPicks Q ps (unless_failed failed (all_taken (Ok v) l)) → ReadsPicks (λ w. Q (f w)) ps (unless_failed failed (all_taken (Ok u) l))
  taken_for u v None [] is h = subst (λ w. Q w ps) (sym is) h
  taken_for u v None (x ∷ l) is h = λ k w. h k (f w)
  taken_for u v (Some e) l is h = λ k w. h k (f w)

  untaken_for : (e : ASN1Error) (failed : Option ASN1Error) (l : List SetElement) →
      ReadsPicks Q ps (unless_failed failed (all_taken (Err e) l)) → ReadsPicks (λ w. Q (f w)) ps (unless_failed failed (all_taken (Err e) l))
  untaken_for e None l h = λ k w. h k (f w)
  untaken_for e (Some d) l h = λ k w. h k (f w)

module _ {U V : Type 0} (f : U → V) (P : Pieced V) (c : SetReading) where
  -- a value that represents the one that was read
  pub reads_for : (u : U) (v : V) (r : Result V ASN1Error) (c' : SetReading) → r ≡ Ok v → f u ≡ v → ReadsSetParts P c r c' →
      ReadsSetParts (λ m n w ps. P m n (f w) ps) c (Ok u) c'
  reads_for u v r c' was is h = record {
    reads = λ fresh found.
        let k = (subst (λ x. ReadsSetParts P c x c') was h).reads fresh found in
        taken_for f (P c.reader.mode c.reader.levels) (encodings_of c.list.items) u v c'.reader.failed c'.list.items is k;
  }

  -- no value, where the reading returned an Err
  pub fails_for : (e : ASN1Error) (r : Result V ASN1Error) (c' : SetReading) → r ≡ Err e → ReadsSetParts P c r c' →
      ReadsSetParts {V = U} (λ m n w ps. P m n (f w) ps) c (Err e) c'
  fails_for e r c' was h = record {
    reads = λ fresh found.
        let k = (subst (λ x. ReadsSetParts P c x c') was h).reads fresh found in
        untaken_for f (P c.reader.mode c.reader.levels) (encodings_of c.list.items) e c'.reader.failed c'.list.items k;
  }
