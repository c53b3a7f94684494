-- What is so of a value of a CHOICE, and of writing it, from the alternative that it is known to be.
use Rattle.std.proofs.Common.{◌≡◌, ◌∙◌, ℕ, Option, Result, ap, sym, subst}
use Rattle.yasna_base.specs.declared.error.ASN1Error.{ASN1Error}
use Rattle.yasna_base.specs.declared.mode.BERMode.{BERMode}
use Rattle.yasna_base.specs.declared.tag.Tag.{Tag}
use Rattle.yasna_writer.specs.Prepend.{Prepended, Prepends, KnownLength}
use Rattle.yasna_writer.specs.View.{Written, Writes}
use Rattle.yasna_notation.specs.declared.choices.Either.{Either}
use Rattle.yasna_notation.specs.declared.choices.Either.TheVariants.{Second}
use Rattle.yasna_notation.specs.Notation.{Meaning}

module _ {U : Type 0} (x : Meaning U) {u v : U} (is : u ≡ v) where
  -- it can be written where that can
  pub can_as : x.can u → x.can v
  can_as h = subst x.can is h

  -- it is written as that is
  pub written_as : (old new : Written) (r : Result (Unit {0}) ASN1Error) → Writes (x.encoding_under old.tag old.mode v) old new r →
      Writes (x.encoding_under old.tag old.mode u) old new r
  written_as old new r h = subst (λ w. Writes (x.encoding_under old.tag old.mode w) old new r) (sym is) h

  -- it is prepended as that is
  pub prepended_as : (t : Option Tag) (old new : Prepended) (r : Result (Unit {0}) ASN1Error) → Prepends (x.encoding_under t old.mode v) old new r →
      Prepends (x.encoding_under t old.mode u) old new r
  prepended_as t old new r h = subst (λ w. Prepends (x.encoding_under t old.mode w) old new r) (sym is) h

  -- it is as long as that is
  pub known_as : (t : Option Tag) (m : BERMode) (r : Option ℕ) → KnownLength (x.encoding_under t m v) r → KnownLength (x.encoding_under t m u) r
  known_as t m r h = subst (λ w. KnownLength (x.encoding_under t m w) r) (sym is) h

-- what depends on the second side is known
pub second_is : {A B : Type 0} {v : Either A B} {w x : B} → v ≡ Second w → w ≡ x → v ≡ Second x
second_is is inner = is ∙ ap (λ z. Second z) inner
