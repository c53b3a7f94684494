-- What is written of a part that may be its default.
use Rattle.std.proofs.Common.{◌≡◌, Bool, true, false, [], sym, subst, refl}
use Rattle.std.specs.Prelude.{if◌then◌else◌}
use Rattle.yasna_base.specs.declared.mode.BERMode.{BERMode}
use Rattle.yasna_base.specs.Default.{default_encoding}
use Rattle.yasna_base.specs.Grammar.{Encoding}

module _ {A : Type 0} (is : A → Bool) (f : Encoding A) (m : BERMode) (v : A) where
  -- a value that isn't the default has its own encoding
  pub not_default : is v ≡ false → f m v ≡ default_encoding is f m v
  not_default e = subst (λ z. f m v ≡ (if z then [] else (f m v))) (sym e) refl

  -- the default has an empty encoding
  pub default_left_out : is v ≡ true → [] ≡ default_encoding is f m v
  default_left_out e = subst (λ z. [] ≡ (if z then [] else (f m v))) (sym e) refl
