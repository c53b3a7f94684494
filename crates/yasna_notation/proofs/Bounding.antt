-- What reading does of a type of which some values alone are taken, in each mode the same.
use Rattle.std.proofs.Common.{◌≡◌, ◌∷◌, [], List, Bool, true, false, Option, Some, None, Ok, Err}
use Rattle.yasna_base.specs.declared.error.ASN1Error.{ASN1Error}
use Rattle.yasna_base.specs.declared.error.ASN1ErrorKind.TheVariants.{Invalid}
use Rattle.yasna_base.specs.declared.tag.Tag.{Tag}
use Rattle.yasna_base.specs.Coding.{Any}
use Rattle.yasna_base.specs.Error.{error_of}
use Rattle.yasna_base.specs.Exact.{Fitting}
use Rattle.yasna_base.specs.Grammar.{Grammar, Members, Encoding}
use Rattle.yasna_base.specs.Identifier.{AnyTag}
use Rattle.yasna_reader.specs.State.{Reading}
use Rattle.yasna_notation.specs.Bounded.{Within}
use Rattle.yasna_notation.specs.Notation.{IsNotation, IsNotationUnderTags, ReadsAs}
use Rattle.yasna_notation.proofs.WithinMode.{ReadingLaws, mode_within, mode_outside, mode_none}

module _ {A : Type 0} {E : A → A → Type 0} (B : Option Tag → Grammar A) (S : Option Tag → Members) (encoding : Option Tag → Encoding A) {Fits : Fitting A}
    {Can : A → Type 0} (passes : A → Bool) (alike : (v w : A) → E v w → passes v ≡ passes w) (tags_known : Bool) (ts : List Tag) (retagged may_allocate : Bool)
    (x : IsNotation tags_known ts E (B None) (S None) (encoding None) Fits Can) (y : retagged ≡ true → IsNotationUnderTags E B S encoding Fits Can) (s : Reading) where
  own : ReadingLaws tags_known ts E (B None) (S None)
  own = record { coding = x.coding; begins = x.begins }

  others : retagged ≡ true → AnyTag (λ t. ReadingLaws true (t ∷ []) E (B (Some t)) (S (Some t)))
  others may t not range = let z = y may t not range in record { coding = z.coding; begins = z.begins }

  -- a value that passes
  pub read_within : (v : A) (s' : Reading) → passes v ≡ true → ReadsAs tags_known ts retagged may_allocate B S s (Ok v) s' →
      ReadsAs tags_known ts retagged may_allocate (λ u. Within passes (B u)) (λ u. Any (Within passes (B u))) s (Ok v) s'
  read_within v s' is h = mode_within (λ v. v) B S (λ m. passes) (λ m. alike) tags_known ts retagged may_allocate own others s v s' is h

  -- one that doesn't
  pub read_outside : (v : A) (s' : Reading) → passes v ≡ false → ReadsAs tags_known ts retagged may_allocate B S s (Ok v) s' →
      ReadsAs tags_known ts retagged may_allocate (λ u. Within passes (B u)) (λ u. Any (Within passes (B u))) s (Err (error_of Invalid)) s'
  read_outside v s' is h = mode_outside (λ v. v) B S (λ m. passes) (λ m. alike) tags_known ts retagged may_allocate own others s v s' is h

  -- none
  pub read_none : (e : ASN1Error) (s' : Reading) → ReadsAs {A = A} tags_known ts retagged may_allocate B S s (Err e) s' →
      ReadsAs {A = A} tags_known ts retagged may_allocate (λ u. Within passes (B u)) (λ u. Any (Within passes (B u))) s (Err e) s'
  read_none e s' h = mode_none {U = A} (λ v. v) B S (λ m. passes) (λ m. alike) tags_known ts retagged may_allocate own others s e s' h
